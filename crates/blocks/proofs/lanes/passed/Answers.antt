use native.Mathlib.Omega.{arith}
use Rattle.blocks.proofs.Marks.{passed_by}
use Rattle.blocks.proofs.lanes.passed.Goals as goal

pub returns : goal.returns
returns g c = passed_by _ _ _ _ _ (omega arith) c.marks.ensures c.before-2.ensures
