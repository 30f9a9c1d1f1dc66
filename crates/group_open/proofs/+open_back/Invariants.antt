-- `open_back` meets its contract: the invariant is `Backing`, the codes from `left` on are passed, their text and the
-- stack stand in the scratch; its laws are in proofs/BackLaws.antt.
use Rattle.group_open.proofs.BackLaws.{Backing}
use Rattle.group_open.proofs.+open_back.Given as goal

abbrev pub decreases-open_back : goal.decreases-open_back
decreases-open_back l = l.from.left

abbrev pub invariant-loop-s : goal.invariant-loop-s
invariant-loop-s l = Backing l.initial.scratch l.scratch l.n l.fn.from.left l.s

abbrev pub decreases-loop-s : goal.decreases-loop-s
decreases-loop-s l = l.s.left
