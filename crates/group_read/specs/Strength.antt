-- A strength, which is no 0, or none.
use Rattle.std.specs.Prelude.{ℕ, ◌<◌, ◌≡◌, Option, Some, None}

-- r is n, or None where n is 0
pub record Positive (n : ℕ) (r : Option ℕ) : Type 0 where
  pub some : (s : ℕ) → r ≡ Some s → (s ≡ n) × (0 < s)
  pub none : r ≡ None → n ≡ 0
