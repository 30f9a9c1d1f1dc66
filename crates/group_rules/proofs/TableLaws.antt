-- A test that is computed for each text of a list holds of each text that is one of them.
use Prim.Native.Nat.{ℕ}
use mathlib.Core.Bool.{Bool, true, false, not, ◌&&◌, ◌||◌}
use mathlib.Core.List.{List, [], ◌∷◌}
use mathlib.Core.Path.{◌≡◌, refl, ap, sym, ◌∙◌}
use native.Mathlib.Omega.{arith}
use lib.Dec.{eqb}
use borrow.Author.Tests.{eqb-true}
use Rattle.rules.specs.Basics.{same, one_of}
use Rattle.rules.proofs.Prefix.{same_eq}
use Rattle.utf8.proofs.Tests.{and_left, and_right}

pub or_cases : {P : Type 0} (a b : Bool) → (a ≡ true → P) → (b ≡ true → P) → (a || b) ≡ true → P
or_cases true b f g h = f refl
or_cases false b f g h = g h

pub or_false : (a b : Bool) → a ≡ false → b ≡ false → (a || b) ≡ false
or_false a b e f = ap (λ (x : Bool). x || b) e ∙ f

pub and_none : (a : Bool) → (a && false) ≡ false
and_none true = refl
and_none false = refl

pub not_of : (b : Bool) → not b ≡ true → b ≡ false
not_of true h = sym h
not_of false h = refl

-- of two characters one passes a test and the other does not
pub unlike : (p : ℕ → Bool) (x k : ℕ) → p x ≡ true → p k ≡ false → eqb x k ≡ false
unlike p x k h n = go (eqb x k) refl
  where
    go : (b : Bool) → eqb x k ≡ b → b ≡ false
    go true e = sym h ∙ ap p (eqb-true x k e) ∙ n
    go false e = refl

unfoldable pub all_of : (List ℕ → Bool) → List (List ℕ) → Bool
all_of p [] = true
all_of p (o ∷ os) = p o && all_of p os

pub found : (p : List ℕ → Bool) (ops : List (List ℕ)) (w : List ℕ) → all_of p ops ≡ true → one_of ops w ≡ true → p w ≡ true
unfolding one_of all_of
found p [] w h k = let z : ◌≡◌ {A = ℕ} 0 1 = cc in absurd (omega arith)
found p (o ∷ os) w h k =
    let r = found p os w (and_right (p o) (all_of p os) h) in
    or_cases (same o w) (one_of os w) (λ e. ap p (sym (same_eq o w e)) ∙ and_left (p o) (all_of p os) h) r k
