use borrow.Author.Rules.{rules}
use Rattle.glob_name.proofs.ReadLaws.{digits_first}
use Rattle.glob_name.proofs.read.digit_count.Goals as goal

pub returns : goal.returns
returns c = search (rules, digits_first)
