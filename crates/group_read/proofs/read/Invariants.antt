-- `read` meets its contract: the invariant is `Reads`, reading the source comes to reading what is left of it from the
-- reader's state; its laws are in proofs/LoopLaws.antt.
use Rattle.group_read.proofs.LoopLaws.{Reads}
use Rattle.group_read.proofs.read.Given as goal

abbrev pub invariant-loop-i : goal.invariant-loop-i
invariant-loop-i l = Reads l.source l.initial.scratch l.scratch l.i l.r
