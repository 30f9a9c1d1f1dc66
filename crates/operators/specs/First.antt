-- Lines without a byte that operators start with.
use Rattle.std.specs.Prelude.{ℕ, Bool, false, ◌||◌, List, [], ◌∷◌, get_or}
use Rattle.rules.specs.Operators.{starts_operator}

abbrev pub operator_starts_at : List ℕ → ℕ → Bool
operator_starts_at s i = starts_operator (get_or s i 0)

-- one of the bytes starts an operator
unfoldable pub any_starts : List ℕ → Bool
any_starts [] = false
any_starts (c ∷ cs) = starts_operator c || any_starts cs
