use mathlib.Core.Path.{sym}
use Rattle.rules.proofs.Choose.{choose_true, choose_false}
use Rattle.step.proofs.ignore_of.Goals as goal

pub returns-then-marker : goal.returns-then-marker
returns-then-marker c = sym (choose_true _ _ _ c.if-marker.true)

pub returns-else-marker : goal.returns-else-marker
returns-else-marker c = sym (choose_false _ _ _ c.if-marker.false)
