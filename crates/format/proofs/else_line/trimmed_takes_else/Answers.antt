use borrow.Author.Rules.{rules}
use Rattle.format.proofs.ElseLaws.{takes_brace, takes_none}
use Rattle.format.proofs.else_line.trimmed_takes_else.Goals as goal

pub returns-then-ends_in_brace : goal.returns-then-ends_in_brace
returns-then-ends_in_brace c = search (rules, takes_brace)

pub returns-else-ends_in_brace : goal.returns-else-ends_in_brace
returns-else-ends_in_brace c = search (rules, takes_none)
