use Rattle.operators.proofs.OperatorLaws.{found_operator}
use Rattle.operators.proofs.is_two.Goals as goal

pub returns : goal.returns
returns c = found_operator _ _ _ c.of_two.ensures c.is_some.ensures
