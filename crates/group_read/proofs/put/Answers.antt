use native.Mathlib.Omega.{arith}
use Rattle.group_read.proofs.OperatorLaws.{written}
use Rattle.group_read.proofs.put.Goals as goal

pub returns : goal.returns
returns g c = written _ _ _ _ _ _ c.requires (omega arith) (omega arith) c.copy_from_slice.ensures.after
