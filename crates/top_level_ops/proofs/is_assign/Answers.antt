use borrow.Author.Rules.{rules}
use Rattle.top_level_ops.proofs.StepLaws.{assign_short, assign_equals, assign_other}
use Rattle.top_level_ops.proofs.is_assign.Goals as goal

pub returns-in-61 : goal.returns-in-61
returns-in-61 c = search (rules, assign_equals)

pub returns-in_default : goal.returns-in_default
returns-in_default c = search (rules, assign_short)

pub returns-in_default-2 : goal.returns-in_default-2
returns-in_default-2 c = search (rules, assign_other)
