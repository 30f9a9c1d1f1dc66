use borrow.Author.Tests.{eqb-true}
use Rattle.spacing.proofs.KeptLaws.{keeping_unchanged}
use Rattle.spacing.proofs.is_spaced.Goals as goal

pub returns : goal.returns
returns c = keeping_unchanged _ _ _ _ c.spaced_to.ensures (eqb-true _ _)
