-- `measure_tabs` meets its contract: the invariant is `Measuring`, the first i bytes reach this column; its laws are in
-- proofs/MeasureLaws.antt.
use Rattle.split.proofs.MeasureLaws.{Measuring}
use Rattle.split.proofs.measure_tabs.Given as goal

abbrev pub invariant-loop-b : goal.invariant-loop-b
invariant-loop-b l = Measuring l.ruler l.initial.column l.part l.column l.b-index
