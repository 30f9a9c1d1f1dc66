use Rattle.group_open.proofs.BackLaws.{moved_operator}
use borrow.Author.Rules.{rules}
use Rattle.group_open.proofs.open_operator.Goals as goal

pub returns : goal.returns
returns c = search (rules, moved_operator)
