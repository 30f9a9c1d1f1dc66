use native.Mathlib.Omega.{arith}
use Rattle.utf8.proofs.Bytewise.{width_past, width_fits}
use Rattle.utf8.proofs.width.Goals as goal

pub overflow_add-result : goal.overflow_add-result
overflow_add-result c = record { fits = width_fits _ _ _ c.past_blocks-ascii.ensures c.total.ensures (omega arith) }

pub returns : goal.returns
returns c = width_past _ _ _ c.past_blocks-ascii.ensures c.total.ensures c.requires
