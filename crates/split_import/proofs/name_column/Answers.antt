use borrow.Author.Rules.{rules}
use Rattle.split_import.proofs.NameLaws.{name_measured}
use Rattle.split_import.proofs.name_column.Goals as goal

pub returns : goal.returns
returns c = search (rules, name_measured)
