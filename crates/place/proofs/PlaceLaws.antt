-- Laws of putting a line into the text.
use Prim.Native.Nat.{ℕ, ◌+◌, ◌≤◌, ◌<◌}
use mathlib.Core.Bool.{Bool}
use mathlib.Core.List.{List}
use mathlib.Core.Path.{◌≡◌, ◌∙◌}
use native.Mathlib.Omega.{arith}
use Rattle.rules.specs.Basics.{choose, is, last_is}
use Rattle.rules.proofs.Choose.{choose_case}
use Rattle.rules.specs.Refusals.{max_source}
use Rattle.text.specs.Text.{ElseLine}
use Rattle.format.proofs.ElseLaws.{brace_bytes}
use Rattle.place.specs.Placing.{GoesOn}

-- ---- an else that goes on

pub else_goes : (line class : List ℕ) (j : Bool) → GoesOn line class → j ≡ last_is (is "}") line → ElseLine line j
else_goes line class j g e =
    record {
      well = g.well;
      trimmed = g.trimmed;
      some = g.some;
      takes = e ∙ brace_bytes line g.well;
    }

-- ---- its level

pub level_small : (level levels : ℕ) (continued : Bool) → level ≡ levels + choose continued 1 0 → levels < max_source → level ≤ max_source
level_small level levels continued e h = rw e (choose_case (λ (n : ℕ). levels + n ≤ max_source) (λ t. omega arith) (λ t. omega arith))
