use Rattle.ranges.specs.Slots.{inside}
use Rattle.ranges.proofs.Range.holds.Goals as goal

pub returns : goal.returns
unfolding inside
returns c = rw (c.not_below-above_first.ensures, c.not_above-below_second.ensures, c.not_below-above_second.ensures, c.not_above-below_first.ensures)
