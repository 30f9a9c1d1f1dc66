-- `close_until` meets its contract: the invariant is `Closing`, a `)` is written for each operation taken off the stack;
-- its laws are in proofs/ForthLaws.antt.
use Rattle.group_close.specs.Forth.{close_until}
use Rattle.group_close.proofs.ForthLaws.{Closing}
use Rattle.group_close.proofs.close_until.Given as goal

abbrev pub invariant-loop-o : goal.invariant-loop-o
invariant-loop-o g l = Closing l.scratch l.initial.out l.out l.fn.spot l.o (close_until g.meets)

abbrev pub decreases-loop-o : goal.decreases-loop-o
decreases-loop-o g l = l.o.top
