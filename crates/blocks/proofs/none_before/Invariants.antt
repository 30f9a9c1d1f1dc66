use Rattle.std.proofs.Common.{◌-◌}
use Rattle.blocks.specs.Blocks.{NoneFrom}
use Rattle.blocks.proofs.none_before.Given as goal

abbrev pub invariant-loop-i : goal.invariant-loop-i
invariant-loop-i g l = NoneFrom g.meets 0 l.end l.i

abbrev pub decreases-loop-i : goal.decreases-loop-i
decreases-loop-i g l = l.last - l.i

abbrev pub ghost-any_among : goal.ghost-any_among
ghost-any_among g a = g.meets
