-- Whether a line has a text at place i, by its bytes there.
use Prim.Native.Nat.{ℕ, suc, ◌+◌, ◌<◌, ◌≤◌}
use mathlib.Core.Bool.{Bool, true, false, and-true}
use mathlib.Core.Path.{◌≡◌, sym, ◌∙◌}
use mathlib.Core.List.{List, [], ◌∷◌}
use native.Mathlib.Numerals.{add-one}
use native.Mathlib.Omega.{arith}
use borrow.Author.Tests.{eq-eqb, ne_eqb}
use lib.ListN.{length, get_or, drop, drop_of_length-le, length-drop}
use lib.Seq.{drop-cons}
use lib.Dec.{eqb}
use Rattle.rules.specs.Basics.{starts_with}
use Rattle.rules.proofs.StartsBytes.{starts_length}

-- v is what a test gave, and r is that
pub told : {b r v : Bool} → r ≡ b → r ≡ v → v ≡ b
told e f = sym f ∙ e

module _ (s : List ℕ) (i c : ℕ) (w : List ℕ) where
  pub starts_past : length s ≤ i → false ≡ starts_with (drop i s) (c ∷ w)
  unfolding starts_with
  starts_past h = rw (drop_of_length-le s h)

  pub starts_not : i < length s → (get_or s i 0 ≡ c → ⊥) → false ≡ starts_with (drop i s) (c ∷ w)
  unfolding starts_with
  starts_not h n = rw (drop-cons s i 0, ne_eqb _ _ n)

  -- another byte stands there
  pub starts_other : (b : ℕ) → i < length s → get_or s i 0 ≡ b → (b ≡ c → ⊥) → false ≡ starts_with (drop i s) (c ∷ w)
  starts_other b h e n = starts_not h (λ f. n (sym e ∙ f))

  pub starts_more : {r : Bool} → i < length s → get_or s i 0 ≡ c → r ≡ starts_with (drop (i + 1) s) w → r ≡ starts_with (drop i s) (c ∷ w)
  unfolding starts_with
  starts_more h e f = f ∙ rw (add-one, drop-cons s i 0, eq-eqb _ _ e)

module _ (s : List ℕ) (i c : ℕ) where
  pub starts_byte : i < length s → eqb (get_or s i 0) c ≡ starts_with (drop i s) (c ∷ [])
  unfolding starts_with
  starts_byte h = rw (drop-cons s i 0) (sym (and-true (eqb (get_or s i 0) c)))

  pub starts_is : i < length s → get_or s i 0 ≡ c → true ≡ starts_with (drop i s) (c ∷ [])
  starts_is h e = told (starts_byte h) (eq-eqb _ _ e)

pub starts_reach : (s : List ℕ) (i c : ℕ) (w : List ℕ) → true ≡ starts_with (drop i s) (c ∷ w) → i + suc (length w) ≤ length s
starts_reach s i c w e = omega (arith, starts_length (c ∷ w) (drop i s) (sym e), length-drop i s)
