-- `pop_closers` meets its contract: the invariant is `Popping`, `levels` is the number of levels of the entries left;
-- its laws are in proofs/StackLaws.antt.
use Rattle.brackets.proofs.StackLaws.{Popping}
use Rattle.brackets.proofs.pop_closers.Given as goal

abbrev pub invariant-loop-i : goal.invariant-loop-i
invariant-loop-i l = Popping l.scratch l.base l.depth l.i l.levels
