-- The closers that a line starts with, as the code counts them.
use Rattle.std.specs.Prelude.{ℕ, ◌≤◌, List, ◌≡◌, length}
use Rattle.rules.specs.Brackets.{leading_closers}

-- r of the line's first characters are closers
pub record Closers (line : List ℕ) (r : ℕ) : Type 0 where
  pub is : r ≡ leading_closers line
  pub fits : r ≤ length line
