use Rattle.operators.proofs.FirstLaws.{first_starts}
use Rattle.operators.proofs.first.has_operator.Goals as goal

pub returns : goal.returns
returns c = first_starts _ _ c.first_by_blocks.ensures
