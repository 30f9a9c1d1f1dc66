use borrow.Author.Rules.{rules}
use Rattle.split.proofs.MeasureLaws.{wide_measured}
use Rattle.split.proofs.measured_wide.Goals as goal

pub returns : goal.returns
returns c = search (rules, wide_measured)
