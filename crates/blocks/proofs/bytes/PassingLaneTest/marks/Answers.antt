use native.Mathlib.Omega.{arith}
use Rattle.blocks.proofs.Marks.{marks_of}
use Rattle.blocks.proofs.bytes.PassingLaneTest.marks.Goals as goal

pub returns : goal.returns
returns g c = marks_of _ _ _ _ _ (omega arith) c.mask.ensures
