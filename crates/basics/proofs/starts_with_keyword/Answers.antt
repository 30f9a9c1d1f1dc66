use borrow.Author.Rules.{rules}
use borrow.Author.Tests.{le-leb}
use mathlib.Core.Path.{sym, ap, ◌∙◌}
use mathlib.Core.Bool.{not}
use Rattle.basics.proofs.StartsLaws.{then_no, then_end, then_next}
use Rattle.basics.proofs.starts_with_keyword.Goals as goal

pub returns-then-line-n : goal.returns-then-line-n
returns-then-line-n c = le-leb _ _ c.if-line-n.true ∙ then_end _ _ _ _ (sym c.starts_with.ensures ∙ c.if-starts_with.true) c.if-line-n.true

pub returns-else-line-n : goal.returns-else-line-n
returns-else-line-n c = ap not c.is_ident.ensures ∙ then_next _ _ _ _ (sym c.starts_with.ensures ∙ c.if-starts_with.true) (search rules)

pub returns-else-starts_with : goal.returns-else-starts_with
returns-else-starts_with c = c.if-starts_with.false ∙ then_no _ _ _ _ (sym c.starts_with.ensures ∙ c.if-starts_with.false)
