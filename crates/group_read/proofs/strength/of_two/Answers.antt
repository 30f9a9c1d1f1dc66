use Rattle.group_read.proofs.OperatorLaws.{strength_found}
use Rattle.group_read.proofs.strength.of_two.Goals as goal

pub returns : goal.returns
returns c = strength_found _ _ _ c.of_two.ensures c.built_in.ensures
