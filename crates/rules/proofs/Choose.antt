-- By cases on `choose`; and a chain of tests in code, `if a { return x; } if b { return y; } ..`, against the chain of
-- `choose` that its definition is. Each test takes off one `choose`: a call that gives the test's value, with its
-- outcome (pick_true, pick_false), a bool variable (pick_on, pick_off), or a comparison of numbers (pick_le, pick_gt,
-- pick_lt, pick_ge, pick_eq, pick_ne). `search picks depth 20` closes a return at the end of a chain.
use Prim.Native.Nat.{ℕ, ◌≤◌, ◌<◌}
use mathlib.Core.Bool.{Bool, true, false}
use mathlib.Core.Path.{◌≡◌, refl}
use lib.Dec.{leb, ltb, eqb}
use borrow.Author.Tests.{le-leb, lt-leb, lt-ltb, le-ltb, eq-eqb, ne_eqb}
use Rattle.rules.specs.Basics.{choose}

pub choose_case {ℓ κ} : {A : Type ℓ} (P : A → Type κ) {b : Bool} {x y : A} → (b ≡ true → P x) → (b ≡ false → P y) → P (choose b x y)
unfolding choose
choose_case P {b = true} f g = f refl
choose_case P {b = false} f g = g refl

pub choose_true {ℓ} : {A : Type ℓ} (b : Bool) (x y : A) → b ≡ true → choose b x y ≡ x
unfolding choose
choose_true b x y e = rw e

pub choose_false {ℓ} : {A : Type ℓ} (b : Bool) (x y : A) → b ≡ false → choose b x y ≡ y
unfolding choose
choose_false b x y e = rw e

module _ {A : Type 0} (x y z : A) where
  pub pick_true : (b r : Bool) → r ≡ b → r ≡ true → x ≡ y → x ≡ choose b y z
  unfolding choose
  pick_true b r p q e = rw (← p, q) e

  pub pick_false : (b r : Bool) → r ≡ b → r ≡ false → x ≡ z → x ≡ choose b y z
  unfolding choose
  pick_false b r p q e = rw (← p, q) e

  pub pick_on : (b : Bool) → b ≡ true → x ≡ y → x ≡ choose b y z
  unfolding choose
  pick_on b q e = rw q e

  pub pick_off : (b : Bool) → b ≡ false → x ≡ z → x ≡ choose b y z
  unfolding choose
  pick_off b q e = rw q e

  pub pick_le : (m n : ℕ) → m ≤ n → x ≡ y → x ≡ choose (leb m n) y z
  unfolding choose
  pick_le m n h e = rw (le-leb m n h) e

  pub pick_gt : (m n : ℕ) → n < m → x ≡ z → x ≡ choose (leb m n) y z
  unfolding choose
  pick_gt m n h e = rw (lt-leb m n h) e

  pub pick_lt : (m n : ℕ) → m < n → x ≡ y → x ≡ choose (ltb m n) y z
  unfolding choose
  pick_lt m n h e = rw (lt-ltb m n h) e

  pub pick_ge : (m n : ℕ) → n ≤ m → x ≡ z → x ≡ choose (ltb m n) y z
  unfolding choose
  pick_ge m n h e = rw (le-ltb m n h) e

  pub pick_eq : (m n : ℕ) → m ≡ n → x ≡ y → x ≡ choose (eqb m n) y z
  unfolding choose
  pick_eq m n h e = rw (eq-eqb m n h) e

  pub pick_ne : (m n : ℕ) → (m ≡ n → ⊥) → x ≡ z → x ≡ choose (eqb m n) y z
  unfolding choose
  pick_ne m n h e = rw (ne_eqb m n h) e

pub ruleset picks = (pick_true, pick_false, pick_on, pick_off, pick_le, pick_gt, pick_lt, pick_ge, pick_eq, pick_ne)
