use borrow.Author.Rules.{rules}
use Rattle.split.proofs.MeasureLaws.{measuring_more, measuring_end}
use Rattle.split.proofs.measure_tabs.Goals as goal

pub loop-b-preserved : goal.loop-b-preserved
loop-b-preserved c = search (rules, measuring_more)

pub returns : goal.returns
returns c = search (rules, measuring_end)
