use Prim.Native.Nat.{◌-◌, ◌<◌}
use Rattle.blocks.specs.Blocks.{NoneFrom}
use Rattle.blocks.proofs.lanes.first_in.Given as goal

abbrev pub invariant-loop-i : goal.invariant-loop-i
invariant-loop-i g l = NoneFrom (g.S.PlaceTest.holds l.s) l.at l.end l.i × (l.i < l.end)

abbrev pub decreases-loop-i : goal.decreases-loop-i
decreases-loop-i g l = l.end - l.i
