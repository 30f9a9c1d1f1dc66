-- `last_kept` meets its contract: the invariant is `LastKept`, whose laws are in proofs/PassLaws.antt.
use Rattle.changes.specs.Passing.{LastKept}
use Rattle.changes.proofs.last_kept.Given as goal

abbrev pub invariant-loop-k : goal.invariant-loop-k
invariant-loop-k l = LastKept l.s l.at l.n
