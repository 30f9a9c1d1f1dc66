-- What is said of a test that is made at many places by a vector: a mask has a digit for each, the lowest for the first.
use Rattle.std.specs.Prelude.{ℕ, ◌+◌, ◌<◌, ◌≤◌, Bool, true, false, not, List, ◌≡◌, eqb, get_or, map}
use Rattle.std.specs.List.{range_with_len}
use Rattle.std.specs.Simd.Lanes.{mask_l}

-- the digits of m stand for the n places from i on: 1 where the test q holds
pub record Marks (q : ℕ → Bool) (i n m : ℕ) : Type 0 where
  pub is : m ≡ mask_l (map q (range_with_len i n))

-- r of the n places from `at` on come before the first at which q holds, or all where it holds at none
pub record Passed (q : ℕ → Bool) (at n r : ℕ) : Type 0 where
  pub few : r ≤ n
  pub none : (j : ℕ) → at ≤ j → j < at + r → q j ≡ false
  pub stops : r < n → q (at + r) ≡ true

-- the byte at i is not b
abbrev pub other_at : List ℕ → ℕ → ℕ → Bool
other_at s b i = not (eqb (get_or s i 0) b)
