use Rattle.split_operation.proofs.OperationLaws.{all_broken}
use Rattle.split_operation.proofs.split_operation.Goals as goal

pub returns : goal.returns
returns c = all_broken _ c.requires c.break_first.ensures
