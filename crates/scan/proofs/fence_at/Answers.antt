use mathlib.Core.Path.{◌∙◌}
use borrow.Author.Tests.{le-ltb}
use Rattle.scan.proofs.StartsLaws.{starts_past, starts_more, starts_not}
use Rattle.scan.proofs.fence_at.Goals as goal
use Rattle.scan.proofs.fence_at.Goals.{then-line-at-via-then-line-at, then-line-at-via-else-line-at+then-line-at-ne96}

pub returns-then-at-line : goal.returns-then-at-line
returns-then-at-line c = starts_more _ _ _ _ c.if-line-at.false c.if-line-at-ne96.false c.two_at.ensures

pub returns-else-at-line : goal.returns-else-at-line
returns-else-at-line c =
    le-ltb _ _ c.if-at-line.false ∙ starts_more _ _ _ _ c.if-line-at.false c.if-line-at-ne96.false (starts_past _ _ _ _ c.if-at-line.false)

pub returns-then-line-at : goal.returns-then-line-at
returns-then-line-at c =
    elim c.then-line-at.branch [
      | then-line-at-via-then-line-at w ↦ starts_past _ _ _ _ w.if-line-at.true
      | then-line-at-via-else-line-at+then-line-at-ne96 w ↦ starts_not _ _ _ _ w.if-line-at.false w.if-line-at-ne96.true
    ]
