use mathlib.Core.Path.{◌∙◌}
use borrow.Author.Tests.{le-ltb}
use Rattle.scan.proofs.StartsLaws.{starts_byte, starts_past}
use Rattle.scan.proofs.next_is.Goals as goal

pub returns-then-at-line : goal.returns-then-at-line
returns-then-at-line c = starts_byte _ _ _ c.if-at-line.true

pub returns-else-at-line : goal.returns-else-at-line
returns-else-at-line c = le-ltb _ _ c.if-at-line.false ∙ starts_past _ _ _ _ c.if-at-line.false
