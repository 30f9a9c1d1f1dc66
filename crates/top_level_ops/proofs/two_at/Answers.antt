use borrow.Author.Rules.{rules}
use Rattle.top_level_ops.proofs.StepLaws.{two_short, two_long}
use Rattle.top_level_ops.proofs.two_at.Goals as goal

pub returns-in_default : goal.returns-in_default
returns-in_default c = search (rules, two_short)

pub returns-in-len2-up : goal.returns-in-len2-up
returns-in-len2-up c = search (rules, two_long)
