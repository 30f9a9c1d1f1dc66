use Rattle.group_open.proofs.BackLaws.{moved_bracket}
use borrow.Author.Rules.{rules}
use Rattle.group_open.proofs.open_bracket.Goals as goal

pub returns : goal.returns
returns c = search (rules, moved_bracket)
