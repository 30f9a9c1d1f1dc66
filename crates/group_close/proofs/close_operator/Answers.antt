use Rattle.group_close.proofs.ForthLaws.{stepped_operator}
use borrow.Author.Rules.{rules}
use Rattle.group_close.proofs.close_operator.Goals as goal

pub returns : goal.returns
returns c = search (rules, stepped_operator)
