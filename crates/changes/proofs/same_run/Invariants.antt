-- `same_run` meets its contract: k bytes are passed; the laws are in proofs/PassLaws.antt.
use Prim.Native.Nat.{◌+◌, ◌-◌}
use lib.ListN.{length}
use Rattle.changes.specs.Passing.{Passed}
use Rattle.changes.proofs.same_run.Given as goal

abbrev pub invariant-loop-n : goal.invariant-loop-n
invariant-loop-n l = Passed l.source l.i l.text l.j l.k

abbrev pub decreases-loop-n : goal.decreases-loop-n
decreases-loop-n l = length l.source - (l.i + l.k)
