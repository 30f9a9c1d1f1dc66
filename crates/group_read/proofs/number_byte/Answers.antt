use borrow.Author.Rules.{rules}
use Rattle.group_read.proofs.ReadLaws.{number_goes, number_ends}
use Rattle.group_read.proofs.number_byte.Goals as goal

pub returns-then-is_ascii_digit : goal.returns-then-is_ascii_digit
returns-then-is_ascii_digit c = search (rules, number_goes)

pub returns : goal.returns
returns c = search (rules, number_ends)
