use borrow.Author.Rules.{rules}
use borrow.Author.Tests.{le-ltb}
use Rattle.top_level_ops.proofs.StepLaws.{long_short, long_by}
use Rattle.top_level_ops.proofs.may_be_long.Goals as goal

pub returns-then-l-gt1 : goal.returns-then-l-gt1
returns-then-l-gt1 c = search (rules, long_by)

pub returns-else-l-gt1 : goal.returns-else-l-gt1
returns-else-l-gt1 c = rw (le-ltb _ _ c.if-l-gt1.false) (long_short _ c.if-l-gt1.false c.if-l-eq58.false)
