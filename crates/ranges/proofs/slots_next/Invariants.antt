-- `slots_next` meets its contract: the invariant is `Moving`, the range's slots above j have moved, all others are as
-- they were; its laws are in proofs/SlotLaws.antt.
use Rattle.ranges.proofs.SlotLaws.{Moving}
use Rattle.ranges.proofs.slots_next.Given as goal

abbrev pub invariant-loop-j : goal.invariant-loop-j
invariant-loop-j l = Moving l.chars l.p l.range l.c l.initial.slots l.j l.slots
