use Rattle.std.proofs.Common.{rules}
use mathlib.Core.Path.{sym, ◌∙◌}
use borrow.Author.Tests.{eqb-true, eqb-false}
use Rattle.config_lines.proofs.WholeLaws.{adding_start, adding_more, whole_empty, not_digit, whole_large, whole_end}
use Rattle.config_lines.proofs.number.whole_of.Goals as goal

pub returns-then-is_empty : goal.returns-then-is_empty
returns-then-is_empty c = whole_empty _ (eqb-true _ _ (sym c.is_empty.ensures ∙ c.if-is_empty.true))

pub loop-c-init : goal.loop-c-init
loop-c-init c = adding_start _ (eqb-false _ _ (sym c.is_empty.ensures ∙ c.if-is_empty.false))

pub returns-then-not-is_ascii_digit : goal.returns-then-not-is_ascii_digit
returns-then-not-is_ascii_digit c = not_digit _ _ _ c.loop-c.invariant c.loop-c-test.true (sym c.is_ascii_digit.ensures.value ∙ c.if-not-is_ascii_digit.true)

pub returns-then-n-gt4294967295 : goal.returns-then-n-gt4294967295
returns-then-n-gt4294967295 c = search (rules, whole_large)

pub loop-c-preserved : goal.loop-c-preserved
loop-c-preserved c = adding_more _ _ _ c.loop-c.invariant c.loop-c-test.true (sym c.is_ascii_digit.ensures.value ∙ c.if-not-is_ascii_digit.false) c.if-n-gt4294967295.false

pub returns : goal.returns
returns c = search (rules, whole_end)
