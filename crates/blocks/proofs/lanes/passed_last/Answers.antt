use native.Mathlib.Omega.{arith}
use Rattle.blocks.proofs.Marks.{last_by}
use Rattle.blocks.proofs.lanes.passed_last.Goals as goal

pub returns : goal.returns
returns g c = last_by _ _ _ _ _ _ (omega arith, omega arith) (omega arith, omega arith) c.marks.ensures c.before-2.ensures
