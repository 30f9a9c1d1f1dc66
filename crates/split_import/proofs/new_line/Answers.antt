use borrow.Author.Rules.{rules}
use Rattle.split_import.proofs.NameLaws.{on_new_line}
use Rattle.split_import.proofs.new_line.Goals as goal

pub returns : goal.returns
returns c = search (rules, on_new_line)
