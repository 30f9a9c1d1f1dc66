-- `main` is safe and ends: each page brings the last source nearer. What it reads and writes no contract can say.
use Prim.Native.Nat.{◌≤◌}
use mathlib.Core.Path.{◌≡◌}
use lib.ListN.{length}
use Rattle.short_sources.specs.Printed.{left}
use Rattle.short_sources.proofs.main.Given as goal

abbrev pub invariant-loop-next : goal.invariant-loop-next
invariant-loop-next l = (65536 ≡ length l.page) × (l.most ≤ 6)

abbrev pub decreases-loop-next : goal.decreases-loop-next
decreases-loop-next l = left l.most l.next
