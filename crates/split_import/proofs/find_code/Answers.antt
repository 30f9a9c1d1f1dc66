use borrow.Author.Rules.{rules}
use Rattle.split_import.proofs.ImportLaws.{code_given}
use Rattle.split_import.proofs.find_code.Goals as goal

pub returns : goal.returns
returns c = search (rules, code_given)
