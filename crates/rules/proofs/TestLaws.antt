-- A chain of tests in code, `if a { return true; } .. b`, against `a || .. || b` or `a && b`: `search bools depth 20`
-- closes its returns. A test is a call that gives its value, with its outcome, or a comparison of numbers.
use Prim.Native.Nat.{ℕ}
use mathlib.Core.Bool.{Bool, true, false, ◌&&◌, ◌||◌, or-false}
use mathlib.Core.Path.{◌≡◌, sym, ◌∙◌}
use lib.Dec.{eqb}
use borrow.Author.Tests.{eq-eqb, ne_eqb}

pub or_left : (x y : Bool) → true ≡ x → true ≡ (x || y)
or_left x y e = rw (← e)

pub or_right : (x y r : Bool) → false ≡ x → r ≡ y → r ≡ (x || y)
or_right x y r e f = rw (← e) f

pub or_last : (x r : Bool) → r ≡ x → r ≡ (x || false)
or_last x r e = e ∙ sym (or-false x)

pub and_on : (x y r : Bool) → true ≡ x → r ≡ y → r ≡ (x && y)
and_on x y r e f = rw (← e) f

pub and_off : (x y : Bool) → false ≡ x → false ≡ (x && y)
and_off x y e = rw (← e)

pub told : (b r v : Bool) → r ≡ b → r ≡ v → v ≡ b
told b r v p q = sym q ∙ p

pub told_eq : (m n : ℕ) → m ≡ n → true ≡ eqb m n
told_eq m n h = sym (eq-eqb m n h)

pub told_ne : (m n : ℕ) → (m ≡ n → ⊥) → false ≡ eqb m n
told_ne m n h = sym (ne_eqb m n h)

pub ruleset bools = (or_left, or_right, or_last, and_on, and_off, told, told_eq, told_ne)
