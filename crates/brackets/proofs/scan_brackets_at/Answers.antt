use native.Mathlib.Omega.{arith}
use Rattle.basics.proofs.SplitLaws.{front_part, front_long}
use Rattle.brackets.proofs.StackLaws.{scan_fits, scan_done}
use Rattle.brackets.proofs.scan_brackets_at.Goals as goal

pub scan-requires : goal.scan-requires
scan-requires c = scan_fits _ _ _ _ _ _ c.requires.0 c.split_at_mut-front.ensures.back _ _ (front_long _ _ _ _ _ c.split_at_mut-front.ensures.front c.requires.1 (omega (arith, c.requires.0.stack))) (front_long _ _ _ _ _ c.split_at_mut-front.ensures.front c.requires.0.classes (omega (arith, c.requires.0.stack)))

pub returns : goal.returns
returns c = scan_done _ _ _ _ _ (omega (arith, c.requires.0.stack)) c.split_at_mut-front.ensures.front c.split_at_mut-front.ensures.back _ _ _ _ _ _ _ _ (front_part _ _ _ _ _ c.split_at_mut-front.ensures.front c.requires.1) (front_part _ _ _ _ _ c.split_at_mut-front.ensures.front c.requires.0.classes) (front_long _ _ _ _ _ c.split_at_mut-front.ensures.front c.requires.1 (omega (arith, c.requires.0.stack))) c.scan.ensures
