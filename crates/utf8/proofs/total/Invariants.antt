-- The invariant is `SumScan`, whose laws are in proofs/Bytewise.antt.
use Rattle.utf8.proofs.Bytewise.{SumScan}
use Rattle.utf8.proofs.total.Given as goal

abbrev pub invariant-loop-b : goal.invariant-loop-b
invariant-loop-b g l = SumScan g.counts 2 l.s l.n l.b-index
