-- The first i of n bytes are copied.
use Prim.Native.Nat.{◌-◌, ◌≤◌}
use Rattle.buffer.specs.Copy.{Copies}
use Rattle.buffer.proofs.copy_long.Given as goal

abbrev pub invariant-loop-i : goal.invariant-loop-i
invariant-loop-i l = record { within : l.i ≤ l.n; copies : Copies l.initial.out l.out l.line 0 l.i }

abbrev pub decreases-loop-i : goal.decreases-loop-i
decreases-loop-i l = l.last - l.i
