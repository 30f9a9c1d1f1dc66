use Rattle.group_read.proofs.OperatorLaws.{strength_found}
use Rattle.group_read.proofs.strength.of_one.Goals as goal

pub returns : goal.returns
returns c = strength_found _ _ _ c.of_one.ensures c.built_in.ensures
