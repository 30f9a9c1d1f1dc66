use Prim.Native.Nat.{ℕ}
use mathlib.Core.Path.{◌∙◌, ap}
use mathlib.Core.List.{◌∷◌, []}
use Rattle.rules.specs.Basics.{starts_with}
use Rattle.marks.proofs.closes.Goals as goal

pub returns : goal.returns
returns c = c.first_is.ensures ∙ ap (λ (k : ℕ). starts_with c.args.s.now (k ∷ [])) c.quote_of.ensures
