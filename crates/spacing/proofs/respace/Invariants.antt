-- `respace` meets its contract: the invariant is `Reached`, the first i bytes are respaced, with the gap after them in
-- t; its laws are in proofs/SpacingLaws.antt.
use Prim.Native.Nat.{◌-◌}
use lib.ListN.{length}
use Rattle.spacing.proofs.SpacingLaws.{Reached}
use Rattle.spacing.proofs.respace.Given as goal

abbrev pub invariant-loop-i : goal.invariant-loop-i
invariant-loop-i l = Reached l.line l.class l.initial.out l.out l.t l.i

abbrev pub decreases-loop-i : goal.decreases-loop-i
decreases-loop-i l = length l.line - l.i
