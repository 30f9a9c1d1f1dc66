use Rattle.check_call.proofs.CheckLaws.{answered}
use Prim.Native.Nat.{ℕ}
use lib.ListN.{replicate}
use mathlib.Core.Path.{ap, ◌∙◌}
use Rattle.check_call.proofs.check_call.Goals as goal

pub returns : goal.returns
returns c = answered _ _ _ _ _ _ c.run_check-outcome.ensures (c.zero.ensures ∙ ap (λ (n : ℕ). replicate n 0) c.scratch-1.given) c.into.ensures
