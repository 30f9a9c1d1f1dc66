use mathlib.Core.Path.{◌∙◌}
use borrow.Author.Tests.{ne_eqb}
use Rattle.scan.proofs.StartsLaws.{starts_more, starts_not}
use Rattle.scan.proofs.two_at.Goals as goal

pub returns-then-line-at : goal.returns-then-line-at
returns-then-line-at c = starts_more _ _ _ _ c.requires c.if-line-at.true c.next_is.ensures

pub returns-else-line-at : goal.returns-else-line-at
returns-else-line-at c = ne_eqb _ _ c.if-line-at.false ∙ starts_not _ _ _ _ c.requires c.if-line-at.false
