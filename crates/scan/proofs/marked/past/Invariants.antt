use Prim.Native.Nat.{◌-◌, ◌≤◌}
use Rattle.blocks.specs.Blocks.{FirstFrom}
use Rattle.scan.specs.Marked.{Marked}
use Rattle.scan.proofs.marked.past.Given as goal

abbrev pub invariant-loop-i : goal.invariant-loop-i
invariant-loop-i g l = FirstFrom (g.S.PlaceTest.holds l.s) l.at l.i l.i × Marked l.k l.at l.i l.n l.initial.class l.class × (l.i ≤ l.n)

abbrev pub decreases-loop-i : goal.decreases-loop-i
decreases-loop-i g l = l.n - l.i
