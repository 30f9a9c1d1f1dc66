use Rattle.glob_name.proofs.ReadLaws.{rest_none, rest_given}
use Rattle.glob_name.proofs.read.range_rest.Goals as goal

pub returns-in_err-n : goal.returns-in_err-n
returns-in_err-n c = rw c.from_residual.ensures (rest_none _ _ _ c.in_err-n.ensures)

pub returns : goal.returns
returns c = rest_given _ _ _ _ c.in_ok-n.ensures _ c.char_is.ensures _ c.then_some.ensures
