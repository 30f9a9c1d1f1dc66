use native.Mathlib.Omega.{arith}
use Rattle.changes.proofs.WalkLaws.{noted}
use Rattle.changes.proofs.note.Goals as goal

pub returns-then-k-list : goal.returns-then-k-list
returns-then-k-list c = noted _ _ _ _ _ c.if-k-list.true (omega arith) c.copy_from_slice.ensures.after
