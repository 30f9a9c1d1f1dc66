use native.Mathlib.Omega.{arith}
use Rattle.line_ends.proofs.LineCuts.{cr_none, cr_goes, cr_stays}
use Rattle.line_ends.proofs.without_cr.Goals as goal

pub returns-in-len1-up : goal.returns-in-len1-up
returns-in-len1-up c = cr_goes _ _ (omega arith) c.if-last-eq13.true

pub returns-in_default : goal.returns-in_default
returns-in_default c = cr_none _ (omega arith)

pub returns-in_default-2 : goal.returns-in_default-2
returns-in_default-2 c = cr_stays _ _ (omega arith) c.if-last-eq13.false
