use Rattle.blocks.specs.Blocks.{NoneFrom}
use Rattle.blocks.proofs.first_from.Given as goal

abbrev pub invariant-loop-i : goal.invariant-loop-i
invariant-loop-i g l = NoneFrom g.meets l.at l.end l.i
