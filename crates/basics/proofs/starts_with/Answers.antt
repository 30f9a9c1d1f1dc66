use native.Mathlib.Omega.{arith}
use Rattle.std.proofs.Common.{◌∙◌}
use Rattle.basics.proofs.StartsLaws.{starts_as_list, other_first}
use Rattle.basics.proofs.starts_with.Goals as goal

pub returns-in-len1-up-len1-up : goal.returns-in-len1-up-len1-up
returns-in-len1-up-len1-up c = other_first _ _ c.if-c-w.true (grind arith) (grind arith)

pub returns-in_default : goal.returns-in_default
returns-in_default c = c.starts_with.ensures.value ∙ starts_as_list _ _
