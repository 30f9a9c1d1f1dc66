use borrow.Author.Rules.{rules}
use Rattle.split_import.proofs.NameLaws.{name_first}
use Rattle.split_import.proofs.name_len.Goals as goal

pub returns : goal.returns
returns c = search (rules, name_first)
