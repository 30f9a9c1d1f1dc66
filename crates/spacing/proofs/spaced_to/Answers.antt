use native.Mathlib.Omega.{arith}
use Rattle.spacing.proofs.KeptLaws.{keeping_start}
use Rattle.spacing.proofs.QuietLaws.{quiet_run, quiet_all}
use Rattle.spacing.proofs.spaced_to.Goals as goal

pub returns-then-n-eq0 : goal.returns-then-n-eq0
returns-then-n-eq0 c = keeping_start _ _

pub returns-then-line-i-ne44 : goal.returns-then-line-i-ne44
returns-then-line-i-ne44 c = quiet_all _ _ c.requires _ (omega arith) c.first-i.ensures c.if-i-n.true c.if-line-i-ne44.true

pub spaced_from-requires-clause-keeping : goal.spaced_from-requires-clause-keeping
spaced_from-requires-clause-keeping c = quiet_run _ _ c.requires _ _ (omega arith) c.first-i.ensures (keeping_start _ _)
