use borrow.Author.Rules.{rules}
use Rattle.group_read.proofs.LoopLaws.{steps_due, steps_after}
use Rattle.group_read.proofs.read_byte.Goals as goal

pub returns-in-Due : goal.returns-in-Due
returns-in-Due c = search (rules, steps_due)

pub returns-in-After : goal.returns-in-After
returns-in-After c = search (rules, steps_after)
