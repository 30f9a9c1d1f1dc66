use borrow.Author.Rules.{rules}
use Rattle.text_kinds.proofs.ClassLaws.{told_past, told_string, told_other}
use Rattle.text_kinds.proofs.told_kind.Goals as goal

pub returns-then-line-column : goal.returns-then-line-column
returns-then-line-column c = search (rules, told_past)

pub returns-then-class-i-ne-STR : goal.returns-then-class-i-ne-STR
returns-then-class-i-ne-STR c = search (rules, told_other)

pub returns-else-past-i : goal.returns-else-past-i
returns-else-past-i c = search (rules, told_string)
