-- `write_changes` meets its contract: the invariant is `Walk`, the changes before i and j are written, and the next
-- gaps end at a and b; its laws are in proofs/WalkLaws.antt.
use Prim.Native.Nat.{◌-◌}
use lib.ListN.{length}
use Rattle.changes.proofs.WalkLaws.{Walk}
use Rattle.changes.proofs.write_changes.Given as goal

abbrev pub invariant-loop-a : goal.invariant-loop-a
invariant-loop-a l = Walk l.source l.text l.initial.list l.list l.n l.i l.j l.a l.b

abbrev pub decreases-loop-a : goal.decreases-loop-a
decreases-loop-a l = length l.source - l.a
