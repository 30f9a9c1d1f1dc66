use native.Mathlib.Omega.{arith}
use Rattle.ranges.proofs.StepLaws.{range_behind, range_on}
use Rattle.ranges.proofs.State.step.Goals as goal

pub returns-then-c-eq-MINUS : goal.returns-then-c-eq-MINUS
returns-then-c-eq-MINUS c =
    range_behind _ _ _ _ _ c.requires.0 _ (omega arith) (omega arith) _ c.first_slot.ensures _ c.slots_next.ensures _ _
    c.any_slot-near_plain.ensures _ c.opposite.ensures c.any_slot-near_minus.ensures _ c.far_next-plain.ensures
    c.if-c-eq-MINUS.true

pub returns-else-c-eq-MINUS : goal.returns-else-c-eq-MINUS
returns-else-c-eq-MINUS c =
    range_on _ _ _ _ _ c.requires.0 _ (omega arith) (omega arith) _ c.first_slot.ensures _ c.slots_next.ensures _ _
    c.any_slot-near_plain.ensures _ c.opposite.ensures c.any_slot-near_minus.ensures _ c.far_next-plain.ensures
    c.if-c-eq-MINUS.false
