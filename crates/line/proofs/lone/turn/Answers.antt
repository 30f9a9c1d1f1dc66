use borrow.Author.Rules.{rules}
use Rattle.line.proofs.LoneLaws.{closed_done, opened_done}
use Rattle.line.proofs.lone.turn.Goals as goal

pub returns-then-is_closer : goal.returns-then-is_closer
returns-then-is_closer c = search (rules, closed_done)

pub returns-else-is_closer : goal.returns-else-is_closer
returns-else-is_closer c = search (rules, opened_done)
