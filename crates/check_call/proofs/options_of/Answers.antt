use mathlib.Core.Path.{sym, ◌∙◌}
use Rattle.check_call.proofs.CheckLaws.{kept_refused, set_passed}
use Rattle.check_call.proofs.options_of.Goals as goal

pub returns-then-is_none : goal.returns-then-is_none
returns-then-is_none c = kept_refused _ _ _ (sym c.from_numbers.ensures ∙ c.in_ok-options.was) c.is_none.ensures c.if-is_none.true

pub returns : goal.returns
returns c = set_passed _ _ _ (sym c.from_numbers.ensures ∙ c.in_ok-options.was) c.is_none.ensures c.if-is_none.false
