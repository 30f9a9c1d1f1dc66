use Rattle.group_open.proofs.BackLaws.{moved_closer}
use borrow.Author.Rules.{rules}
use Rattle.group_open.proofs.open_closer.Goals as goal

pub returns : goal.returns
returns c = search (rules, moved_closer)
