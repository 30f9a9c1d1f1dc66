-- `give` meets its contract. The loop: all texts of fewer than `size` characters are passed.
use Prim.Native.Nat.{◌-◌}
use Rattle.short_texts.proofs.StepLaws.{Looking}
use Rattle.short_texts.proofs.give.Given as goal

abbrev pub invariant-loop-weight : goal.invariant-loop-weight
invariant-loop-weight l = Looking l.number l.size l.weight l.left

abbrev pub decreases-loop-weight : goal.decreases-loop-weight
decreases-loop-weight l = 7 - l.size
