use native.Mathlib.Omega.{arith}
use Rattle.spacing.proofs.KeptLaws.{blank_first, blank_last}
use Rattle.spacing.proofs.blank_before.Goals as goal

pub returns-then-i-gt0 : goal.returns-then-i-gt0
returns-then-i-gt0 c = blank_last _ _ _ c.requires (λ z. absurd (omega arith)) c.is_blank.ensures

pub returns-else-i-gt0 : goal.returns-else-i-gt0
returns-else-i-gt0 c = blank_first _ _ _ (omega arith)
