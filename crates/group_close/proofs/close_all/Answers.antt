use borrow.Author.Rules.{rules}
use Rattle.group_close.proofs.ForthLaws.{closed_all}
use Rattle.group_close.proofs.close_all.Goals as goal

pub returns : goal.returns
returns c = search (rules, closed_all)
