use borrow.Author.Rules.{rules}
use Rattle.spacing.proofs.KeptLaws.{comma_gap}
use Rattle.spacing.proofs.kept_gap.Goals as goal

pub returns : goal.returns
returns c = search (rules, comma_gap)
