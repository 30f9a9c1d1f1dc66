-- The invariant is what is promised, of the places before `at + k`.
use Rattle.blocks.specs.Blocks.{NoneAmong}
use Rattle.blocks.proofs.any_among.Given as goal

abbrev pub invariant-loop-k : goal.invariant-loop-k
invariant-loop-k g l = NoneAmong g.meets l.at l.k l.any
