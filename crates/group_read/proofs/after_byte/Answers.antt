use borrow.Author.Rules.{rules}
use Rattle.group_read.proofs.ReadLaws.{after_blank, after_none, after_close, after_operator, after_refused}
use Rattle.group_read.proofs.after_byte.Goals as goal

pub returns-then-is_blank : goal.returns-then-is_blank
returns-then-is_blank c = search (rules, after_blank)

pub returns-then-depth-eq0 : goal.returns-then-depth-eq0
returns-then-depth-eq0 c = search (rules, after_none)

pub returns-then-c-eq41 : goal.returns-then-c-eq41
returns-then-c-eq41 c = search (rules, after_close)

pub returns-then-starts_operator : goal.returns-then-starts_operator
returns-then-starts_operator c = search (rules, after_operator)

pub returns : goal.returns
returns c = search (rules, after_refused)
