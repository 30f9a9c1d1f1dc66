-- `classify` meets its contract: the invariant is `Reached`, the line is classified up to i, where y is open; its laws
-- are in proofs/ClassifyLaws.antt.
use Prim.Native.Nat.{◌-◌}
use lib.ListN.{length}
use Rattle.scan.proofs.ClassifyLaws.{Reached}
use Rattle.scan.proofs.classify.Given as goal

abbrev pub invariant-loop-i : goal.invariant-loop-i
invariant-loop-i l = Reached l.line l.initial.y l.initial.class l.class l.i l.y

abbrev pub decreases-loop-i : goal.decreases-loop-i
decreases-loop-i l = length l.line - l.i
