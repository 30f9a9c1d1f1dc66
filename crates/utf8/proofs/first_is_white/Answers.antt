use Rattle.std.proofs.Common.{sym, ap, ◌∙◌, not}
use borrow.Author.Tests.{eqb-true, eqb-false}
use Rattle.utf8.proofs.TrimScan.{first_none, first_some}
use Rattle.utf8.proofs.first_is_white.Goals as goal

pub returns-then-not-is_empty : goal.returns-then-not-is_empty
returns-then-not-is_empty c =
    c.is_some.ensures ∙ first_some _ _ c.requires (eqb-false _ _ (sym c.is_empty.ensures ∙ c.if-not-is_empty.true)) c.white_at.ensures

pub returns-else-not-is_empty : goal.returns-else-not-is_empty
returns-else-not-is_empty c =
    ap not c.if-not-is_empty.false ∙ first_none _ (eqb-true _ _ (sym c.is_empty.ensures ∙ c.if-not-is_empty.false))
