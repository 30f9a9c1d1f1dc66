-- `utf8::trim_end` meets its contract: the invariant is `EndScan`, whose laws, one for each way through a turn, are
-- in proofs/TrimScan.antt. Assumes nothing.
use Rattle.utf8.proofs.TrimScan.{EndScan}
use Rattle.utf8.proofs.trim_end.Given as goal

abbrev pub invariant-loop-e : goal.invariant-loop-e
invariant-loop-e l = EndScan l.s l.e

abbrev pub decreases-loop-e : goal.decreases-loop-e
decreases-loop-e l = l.e
