-- `open_after` meets its contract: the invariant is `Opening`, a `(` is written for each operation taken off the stack;
-- its laws are in proofs/BackLaws.antt.
use Rattle.group_open.proofs.BackLaws.{Opening}
use Rattle.group_open.proofs.open_after.Given as goal

abbrev pub invariant-loop-o : goal.invariant-loop-o
invariant-loop-o l = Opening l.initial.scratch l.scratch l.n l.s l.fn.spot l.o

abbrev pub decreases-loop-o : goal.decreases-loop-o
decreases-loop-o l = l.o.top
