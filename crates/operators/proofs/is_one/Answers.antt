use Rattle.operators.proofs.OperatorLaws.{found_operator}
use Rattle.operators.proofs.is_one.Goals as goal

pub returns : goal.returns
returns c = found_operator _ _ _ c.of_one.ensures c.is_some.ensures
