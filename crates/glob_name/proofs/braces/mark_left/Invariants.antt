-- `mark_left` meets its contract: the invariant is `FromLeft`, the first kinds are marked and the braces open there
-- have their flags; its laws are in proofs/MarkLaws.antt.
use Rattle.glob_name.proofs.MarkLaws.{FromLeft}
use Rattle.glob_name.proofs.braces.mark_left.Given as goal

abbrev pub invariant-loop-k : goal.invariant-loop-k
invariant-loop-k l = FromLeft l.initial.kinds l.k-index l.kinds l.open
