use native.Mathlib.Omega.{arith}
use Rattle.spacing.proofs.QuietLaws.{even_run}
use Rattle.spacing.proofs.even_to.Goals as goal

pub returns : goal.returns
returns c = even_run _ _ c.requires.in_bounds.1 _ _ (omega arith) (omega arith) c.first.ensures c.requires.keeping
