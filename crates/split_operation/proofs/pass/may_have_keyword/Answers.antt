use borrow.Author.Rules.{rules}
use Rattle.split_operation.proofs.WordLaws.{none_short, none_first, none_second}
use Rattle.split_operation.proofs.pass.may_have_keyword.Goals as goal

pub returns-then-line-lt2 : goal.returns-then-line-lt2
returns-then-line-lt2 c = search (rules, none_short)

pub returns-then-line-last-eq105 : goal.returns-then-line-last-eq105
returns-then-line-last-eq105 c = search (rules, none_second)

pub returns-else-line-last-eq105 : goal.returns-else-line-last-eq105
returns-else-line-last-eq105 c = search (rules, none_first)
