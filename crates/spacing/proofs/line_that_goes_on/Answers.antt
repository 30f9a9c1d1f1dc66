use Rattle.rules.specs.Basics.{choose}
use Rattle.spacing.proofs.line_that_goes_on.Goals as goal

pub returns-then-unchanged : goal.returns-then-unchanged
unfolding choose
returns-then-unchanged c = rw c.if-unchanged.true

pub returns-else-unchanged : goal.returns-else-unchanged
unfolding choose
returns-else-unchanged c = rw c.if-unchanged.false
