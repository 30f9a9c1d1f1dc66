-- A chain of tests in code against `&&`, `||` and `not` in a definition: each takes off one operand, as the picks of
-- `Choose` do.
use mathlib.Core.Bool.{Bool, true, false, not, ◌&&◌, ◌||◌, and-false, and-true}
use mathlib.Core.Path.{◌≡◌, sym, ◌∙◌}

module _ (x y r s : Bool) (p : r ≡ x) where
  pub and_no : r ≡ false → false ≡ (x && y)
  and_no q = rw (← p, q)

  pub and_yes : r ≡ true → s ≡ y → s ≡ (x && y)
  and_yes q e = rw (← p, q) e

  pub or_yes : r ≡ true → true ≡ (x || y)
  or_yes q = rw (← p, q)

  pub or_no : r ≡ false → s ≡ y → s ≡ (x || y)
  or_no q e = rw (← p, q) e

module _ (x r : Bool) (p : r ≡ x) where
  pub not_yes : r ≡ true → false ≡ not x
  not_yes q = rw (← p, q)

  pub not_no : r ≡ false → true ≡ not x
  not_no q = rw (← p, q)

-- the same where the second operand is a bool of the code
module _ (x b : Bool) where
  pub and_on : b ≡ true → false ≡ (x && not b)
  and_on q = rw q (sym (and-false x))

  pub and_off : (r : Bool) → b ≡ false → r ≡ x → r ≡ (x && not b)
  and_off r q e = rw q (e ∙ sym (and-true x))

pub ruleset bools = (and_no, and_yes, or_yes, or_no, not_yes, not_no, and_on, and_off)
