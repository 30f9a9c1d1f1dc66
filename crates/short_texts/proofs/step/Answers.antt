-- `step` meets its contract: below the number of texts a text is given, else the end is told.
use native.Mathlib.Omega.{arith}
use mathlib.Core.Path.{sym, ap, ◌∙◌}
use Rattle.std.specs.Prelude.{Some}
use Rattle.short_texts.proofs.TextLaws.{length_texts}
use Rattle.short_texts.proofs.StepLaws.{step_in, step_out}
use Rattle.short_texts.proofs.step.Goals as goal

pub give-requires : goal.give-requires
give-requires c = omega (arith, length_texts)

pub returns-then-p-lt-TEXTS : goal.returns-then-p-lt-TEXTS
returns-then-p-lt-TEXTS c = ap Some c.give.ensures ∙ sym (step_in _ (omega (arith, length_texts)))

pub returns-else-p-lt-TEXTS : goal.returns-else-p-lt-TEXTS
returns-else-p-lt-TEXTS c = sym (step_out _ (omega (arith, length_texts)))
