use Rattle.split.proofs.MeasureLaws.{indent_zero}
use Rattle.split.proofs.indent_column.Goals as goal

pub returns-then-ruler-eq0 : goal.returns-then-ruler-eq0
returns-then-ruler-eq0 c = indent_zero c.requires _ c.if-ruler-eq0.true
