-- `list_lines` meets its contract: the invariant is `Listing`, the first i numbers of the list are the lines of the
-- stack's entries; its laws are in proofs/ListLaws.antt.
use Rattle.brackets.proofs.ListLaws.{Listing}
use Rattle.brackets.proofs.list_lines.Given as goal

abbrev pub invariant-loop-i : goal.invariant-loop-i
invariant-loop-i l = Listing l.scratch l.base l.count l.initial.list l.list l.i
