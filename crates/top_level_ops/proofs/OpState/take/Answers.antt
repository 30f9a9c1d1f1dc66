use Rattle.top_level_ops.proofs.StepLaws.{taken_outside, taken_inside}
use Rattle.top_level_ops.proofs.OpState.take.Goals as goal

pub returns-then-self : goal.returns-then-self
returns-then-self c = taken_outside _ c.args.self.now _ c.pass.ensures c.if-self.true

pub returns-else-self : goal.returns-else-self
returns-else-self c = taken_inside _ c.args.self.now _ c.pass.ensures c.if-self.false
