-- Copying in blocks, element by element.
use Rattle.std.specs.Prelude.{ℕ, ◌+◌, ◌≤◌, ◌<◌, List, ◌≡◌, length, get_or}

-- x' is x with the w elements of l from `at` on at the same place
pub record Copies (x x' l : List ℕ) (at w : ℕ) : Type 0 where
  pub long : length x' ≡ length x
  pub is : (j : ℕ) → at ≤ j → j < at + w → get_or x' j 0 ≡ get_or l j 0
  pub front : (j : ℕ) → j < at → get_or x' j 0 ≡ get_or x j 0
  pub back : (j : ℕ) → at + w ≤ j → get_or x' j 0 ≡ get_or x j 0
