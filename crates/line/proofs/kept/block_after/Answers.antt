use borrow.Author.Tests.{lt-ltb, le-ltb}
use Rattle.rules.specs.Basics.{choose}
use Rattle.rules.specs.Line.{block_after}
use Rattle.line.proofs.kept.block_after.Goals as goal

pub returns-then-earlier-now : goal.returns-then-earlier-now
unfolding block_after choose
returns-then-earlier-now c = rw (lt-ltb _ _ c.if-earlier-now.true)

pub returns-else-earlier-now : goal.returns-else-earlier-now
unfolding block_after choose
returns-else-earlier-now c = rw (le-ltb _ _ c.if-earlier-now.false)
