use Rattle.operators.specs.First.{operator_starts_at}
use Rattle.operators.proofs.first.has_operator.Given as goal

abbrev pub ghost-first_by_blocks : goal.ghost-first_by_blocks
ghost-first_by_blocks a = operator_starts_at a.test.now.0.now
