-- `replay` meets its contract: the invariant is `Replaying`, the steps left make of p what all steps make of the start;
-- its laws are in proofs/RunLaws.antt.
use Prim.Native.Nat.{◌-◌}
use lib.ListN.{length}
use Rattle.replay_run.proofs.RunLaws.{Replaying}
use Rattle.replay_run.proofs.replay.Given as goal

abbrev pub invariant-loop-p : goal.invariant-loop-p
invariant-loop-p g l = Replaying l.list l.initial.output l.initial.scratch l.output l.scratch l.p

abbrev pub decreases-loop-p : goal.decreases-loop-p
decreases-loop-p g l = length l.list - l.p.at
