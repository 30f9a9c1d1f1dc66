-- What the program writes, computed: a text, an empty source, a source that is not UTF-8; and the lines for the two
-- limits.
use mathlib.Core.List.{[], ◌∷◌}
use mathlib.Core.Path.{◌≡◌, refl}
use Rattle.decimal.specs.Decimal.{digits, digits_within}
use Rattle.rules.specs.Basics.{codes}
use Rattle.rules.proofs.Computing.{computing}
use Rattle.rules.specs.Assembly.{default_text}
use Rattle.wsfmt_run.specs.Program.{max_input, refusal, written}

texts : (written (codes "f(a ,b)") ≡ codes "f(a, b)\n") × (written [] ≡ codes "\n") × (written (97 ∷ 0xFF ∷ []) ≡ codes "refused 4 at 1\n")
unfolding computing written default_text refusal digits digits_within
texts = (refl, refl, refl)

lines : (refusal 1 max_input ≡ codes "refused 1 at 4096\n") × (refusal 5 16385 ≡ codes "refused 5 at 16385\n")
unfolding refusal digits digits_within
lines = (refl, refl)
