use native.Mathlib.Omega.{arith}
use borrow.Author.Rules.{rules}
use Rattle.format.proofs.ElseLaws.{plain_end, plain_no, plain_yes}
use Rattle.format.proofs.else_line.is_plain_rest.Goals as goal

pub returns-then-is_empty : goal.returns-then-is_empty
returns-then-is_empty c = grind (arith, plain_end)

pub returns-then-starts_white_or : goal.returns-then-starts_white_or
returns-then-starts_white_or c = search (rules, plain_yes)

pub returns-else-starts_white_or : goal.returns-else-starts_white_or
returns-else-starts_white_or c = grind (arith, plain_no)
