use mathlib.Core.Path.{refl}
use native.Mathlib.Omega.{arith}
use Rattle.basics.proofs.SplitLaws.{front_part, front_long}
use Rattle.brackets.proofs.StackLaws.{scan_fits, scan_done}
use Rattle.brackets.proofs.scan_brackets.Goals as goal

pub scan-requires : goal.scan-requires
scan-requires c = scan_fits _ _ _ _ _ _ c.requires c.split_at_mut-front.ensures.back _ _ refl (front_long _ _ _ _ _ c.split_at_mut-front.ensures.front c.requires.classes (omega (arith, c.requires.stack)))

pub returns : goal.returns
returns c = scan_done _ _ _ _ _ (omega (arith, c.requires.stack)) c.split_at_mut-front.ensures.front c.split_at_mut-front.ensures.back _ _ _ _ _ _ _ _ refl (front_part _ _ _ _ _ c.split_at_mut-front.ensures.front c.requires.classes) refl c.scan.ensures
