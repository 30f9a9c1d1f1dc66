-- Where a line ends.
use Rattle.std.specs.Prelude.{ℕ, ◌+◌, ◌≤◌, Bool, List, ◌≡◌, eqb, length, get_or, drop}
use Rattle.rules.specs.Basics.{split_on}

-- the piece that starts at `at` ends at e
pub record LineEnd (s : List ℕ) (at e : ℕ) : Type 0 where
  pub is : e ≡ at + length (split_on "\n" (drop at s)).first
  pub from : at ≤ e
  pub fits : e ≤ length s

-- none of the bytes from `at` up to i is an LF
pub record Ending (s : List ℕ) (at i : ℕ) : Type 0 where
  pub from : at ≤ i
  pub within : i ≤ length s
  pub same : at + length (split_on "\n" (drop at s)).first ≡ i + length (split_on "\n" (drop i s)).first

abbrev pub is_lf : ℕ → Bool
is_lf b = eqb b 10

-- the byte at i is an LF
abbrev pub lf_at : List ℕ → ℕ → Bool
lf_at s i = is_lf (get_or s i 0)
