use Rattle.split.proofs.MeasureLaws.{indent_none, first_fits, second_fits, second_after, indent_several}
use Rattle.split.proofs.indent_tabs.Goals as goal

pub returns-then-levels-eq0 : goal.returns-then-levels-eq0
returns-then-levels-eq0 c = indent_none c.requires.1 _ c.if-levels-eq0.true

pub measure_tabs-first-requires : goal.measure_tabs-first-requires
measure_tabs-first-requires c = (c.requires.0, first_fits c.requires.1)

pub measure_tabs-second-requires : goal.measure_tabs-second-requires
measure_tabs-second-requires c = (c.requires.0, second_fits c.requires.1 c.measure_tabs-first.ensures)

pub overflow_sub-result-2 : goal.overflow_sub-result-2
overflow_sub-result-2 c =
    second_after c.requires.1 c.measure_tabs-first.ensures c.measure_tabs-second.ensures

pub returns : goal.returns
returns c =
    indent_several c.requires.1 c.measure_tabs-first.ensures c.measure_tabs-second.ensures c.requires.0 c.if-levels-eq0.false
