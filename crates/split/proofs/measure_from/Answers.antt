use Rattle.split.proofs.MeasureLaws.{measured_zero, zero_room}
use Rattle.split.proofs.measure_from.Goals as goal

pub overflow_add-result : goal.overflow_add-result
overflow_add-result c = record { fits = zero_room _ _ _ _ c.if-ruler-eq0.true c.requires c.width.ensures }

pub returns-then-ruler-eq0 : goal.returns-then-ruler-eq0
returns-then-ruler-eq0 c = measured_zero _ _ _ _ c.if-ruler-eq0.true c.requires c.width.ensures
