use mathlib.Core.Path.{refl}
use Rattle.ranges.proofs.EndLaws.{sign_inside, end_either}
use Rattle.ranges.proofs.end_at.Goals as goal

pub past_zeros-start-requires : goal.past_zeros-start-requires
past_zeros-start-requires c = sign_inside _ _ _ 0 c.requires.0 c.requires.1 c.requires.2 _ _ c.from.ensures

pub returns : goal.returns
returns c = end_either _ _ _ _ c.requires.0 c.requires.1 c.requires.2 _ refl _ c.from.ensures c.past_zeros-start.ensures
