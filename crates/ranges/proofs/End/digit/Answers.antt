use borrow.Author.Rules.{rules}
use Rattle.ranges.proofs.SlotLaws.{lows_at, lows_past}
use Rattle.ranges.proofs.End.digit.Goals as goal

pub returns-then-j-self : goal.returns-then-j-self
returns-then-j-self c = search (rules, lows_at)

pub returns-else-j-self : goal.returns-else-j-self
returns-else-j-self c = search (rules, lows_past)
