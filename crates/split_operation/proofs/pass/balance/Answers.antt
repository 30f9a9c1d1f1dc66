use borrow.Author.Rules.{rules}
use Rattle.split_operation.proofs.PassLaws.{balance_other, balance_open, balance_close, balance_plain}
use Rattle.split_operation.proofs.pass.balance.Goals as goal

pub returns-then-not-is_code : goal.returns-then-not-is_code
returns-then-not-is_code c = search (rules, balance_other)

pub returns-then-is_opener : goal.returns-then-is_opener
returns-then-is_opener c = search (rules, balance_open)

pub returns-then-is_closer : goal.returns-then-is_closer
returns-then-is_closer c = search (rules, balance_close)

pub returns-else-is_closer : goal.returns-else-is_closer
returns-else-is_closer c = search (rules, balance_plain)
