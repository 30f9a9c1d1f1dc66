-- `call::refuse` meets its contract; the file is there so that a must-fail edit is refused here and not at a caller.
use Rattle.call.proofs.CallLaws.{refused_call}
use Rattle.call.proofs.refuse.Goals as goal

-- first, so that a buffer that is not cleared is refused for what it holds
pub returns : goal.returns
returns c = refused_call _ _ _ _ _ c.zero.ensures c.list_open.ensures
