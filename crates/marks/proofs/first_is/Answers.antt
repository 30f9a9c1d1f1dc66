use borrow.Author.Rules.{rules}
use Rattle.basics.proofs.StartsLaws.{is_none, first_same, first_other}
use Rattle.marks.proofs.first_is.Goals as goal

pub returns-in-len1-up : goal.returns-in-len1-up
returns-in-len1-up c = search (rules, first_same)

pub returns-in_default : goal.returns-in_default
returns-in_default c = search (rules, is_none)

pub returns-in_default-2 : goal.returns-in_default-2
returns-in_default-2 c = search (rules, first_other)
