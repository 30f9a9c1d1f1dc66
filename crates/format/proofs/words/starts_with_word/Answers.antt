use borrow.Author.Rules.{rules}
use Rattle.rules.specs.Words.{starts_with_word}
use mathlib.Core.Path.{sym, ◌∙◌}
use borrow.Author.Tests.{le-leb}
use Rattle.basics.proofs.StartsLaws.{then_no, then_end, then_next}
use Rattle.format.proofs.words.starts_with_word.Goals as goal

pub returns-then-line-n : goal.returns-then-line-n
unfolding starts_with_word
returns-then-line-n c = le-leb _ _ c.if-line-n.true ∙ then_end _ _ _ _ (sym c.starts_with.ensures ∙ c.if-starts_with.true) c.if-line-n.true

pub returns-else-line-n : goal.returns-else-line-n
unfolding starts_with_word
returns-else-line-n c = c.is_blank.ensures ∙ then_next _ _ _ _ (sym c.starts_with.ensures ∙ c.if-starts_with.true) (search rules)

pub returns-else-starts_with : goal.returns-else-starts_with
unfolding starts_with_word
returns-else-starts_with c = c.if-starts_with.false ∙ then_no _ _ _ _ (sym c.starts_with.ensures ∙ c.if-starts_with.false)
