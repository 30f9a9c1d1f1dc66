-- `spaced_from` meets its contract: the invariant is `Keeping` of specs/Respaced.antt, spacing leaves the first i bytes
-- as they are; its laws are in proofs/KeptLaws.antt.
use Prim.Native.Nat.{◌-◌}
use lib.ListN.{length}
use Rattle.spacing.specs.Respaced.{Keeping}
use Rattle.spacing.proofs.spaced_from.Given as goal

abbrev pub invariant-loop-i : goal.invariant-loop-i
invariant-loop-i l = Keeping l.line l.class l.i

abbrev pub decreases-loop-i : goal.decreases-loop-i
decreases-loop-i l = length l.line - l.i
