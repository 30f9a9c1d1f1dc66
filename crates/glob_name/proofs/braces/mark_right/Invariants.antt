-- `mark_right` meets its contract: the invariant is `FromRight`, the kinds from p on are marked and the braces open
-- there have their flags; its laws are in proofs/MarkLaws.antt.
use Rattle.glob_name.proofs.MarkLaws.{FromRight}
use Rattle.glob_name.proofs.braces.mark_right.Given as goal

abbrev pub invariant-loop-p : goal.invariant-loop-p
invariant-loop-p l = FromRight l.initial.kinds l.p l.kinds l.open
