use native.Mathlib.Omega.{arith}
use Rattle.brackets.proofs.ListLaws.{listing_end}
use Rattle.brackets.proofs.list_lines.Goals as goal

pub returns : goal.returns
returns c = listing_end _ _ _ _ _ _ c.loop-i.invariant (omega arith)
