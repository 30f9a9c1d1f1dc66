use Rattle.ranges.specs.Slots.{order_then}
use Rattle.ranges.proofs.order_then.Goals as goal

pub returns : goal.returns
unfolding order_then
returns c = rw (c.then.ensures, c.cmp.ensures)
