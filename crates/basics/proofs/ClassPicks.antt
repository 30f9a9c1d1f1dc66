-- The test of a class byte, as a chain of tests meets it: more picks beside those of `Choose`.
use Prim.Native.Nat.{ℕ, zero, suc}
use mathlib.Core.Bool.{false, not}
use mathlib.Core.Path.{◌≡◌, refl}
use Rattle.rules.specs.Basics.{choose}
use Rattle.rules.specs.Scan.{is_code}
use Rattle.rules.specs.ClassBytes.{class_of}

pub code_other : (k : ℕ) → (k ≡ 0 → ⊥) → is_code (class_of k) ≡ false
code_other zero h = absurd (h refl)
code_other (suc zero) h = refl
code_other (suc (suc zero)) h = refl
code_other (suc (suc (suc zero))) h = refl
code_other (suc (suc (suc (suc k)))) h = refl

module _ {A : Type 0} (x y z : A) (k : ℕ) where
  pub pick_code : k ≡ 0 → x ≡ y → x ≡ choose (is_code (class_of k)) y z
  unfolding choose
  pick_code h e = rw h e

  pub pick_other : (k ≡ 0 → ⊥) → x ≡ z → x ≡ choose (is_code (class_of k)) y z
  unfolding choose
  pick_other h e = rw (code_other k h) e

  pub pick_not_code : k ≡ 0 → x ≡ z → x ≡ choose (not (is_code (class_of k))) y z
  unfolding choose
  pick_not_code h e = rw h e

  pub pick_not_other : (k ≡ 0 → ⊥) → x ≡ y → x ≡ choose (not (is_code (class_of k))) y z
  unfolding choose
  pick_not_other h e = rw (code_other k h) e

pub ruleset class-picks = (pick_code, pick_other, pick_not_code, pick_not_other)
