use borrow.Author.Rules.{rules}
use Rattle.format.proofs.ElseLaws.{no_white, white_if}
use Rattle.format.proofs.else_line.starts_if.Goals as goal

pub returns-then-first_is_white : goal.returns-then-first_is_white
returns-then-first_is_white c = search (rules, white_if)

pub returns-else-first_is_white : goal.returns-else-first_is_white
returns-else-first_is_white c = search (rules, no_white)
