use Rattle.call.proofs.CallLaws.{answered}
use Rattle.call.proofs.format_call.Goals as goal

pub returns : goal.returns
returns c = answered _ _ _ _ _ _ c.format.ensures c.into.ensures
