-- How many of the first characters pass a test: the loop that counts them. (On bytes: StartsBytes.)
--     last_at     the last one
--     Passing, passing_start, passing_more, passing_stop, passing_end     a loop that has passed i characters
use Prim.Native.Nat.{ℕ, suc, ◌+◌, ◌-◌, ◌≤◌, ◌<◌, zero-le}
use native.Mathlib.Omega.{arith}
use native.Mathlib.Numerals.{add-one}
use mathlib.Core.Bool.{Bool, true, false}
use mathlib.Core.List.{List, [], ◌∷◌}
use mathlib.Core.Path.{◌≡◌, refl, ◌∙◌}
use lib.ListN.{length, get_or, drop, drop_of_length-le}
use lib.Seq.{drop-cons}
use Rattle.rules.specs.Basics.{choose, leading, last_is}
use Rattle.rules.proofs.Choose.{choose_true, choose_false}

-- the first i characters of s pass the test
pub record Passing (p : ℕ → Bool) (s : List ℕ) (i : ℕ) : Type 0 where
  pub within : i ≤ length s
  pub sum : leading p s ≡ i + leading p (drop i s)

pub passing_start : (p : ℕ → Bool) (s : List ℕ) → Passing p s 0
passing_start p s = record { within = zero-le; sum = omega arith }

leading_cons : (p : ℕ → Bool) (s : List ℕ) (i : ℕ) → i < length s
    → leading p (drop i s) ≡ choose (p (get_or s i 0)) (suc (leading p (drop (i + 1) s))) 0
unfolding leading
leading_cons p s i h = rw (add-one, drop-cons s i 0)

module _ {p : ℕ → Bool} {s : List ℕ} {i : ℕ} (q : Passing p s i) where
  pub passing_more : i < length s → p (get_or s i 0) ≡ true → Passing p s (i + 1)
  passing_more h e =
      let k : leading p (drop i s) ≡ suc (leading p (drop (i + 1) s)) = leading_cons p s i h ∙ choose_true _ _ _ e in
      record { within = omega arith; sum = omega (arith, q.sum) }

  pub passing_stop : i < length s → p (get_or s i 0) ≡ false → i ≡ leading p s
  passing_stop h e = let k : leading p (drop i s) ≡ 0 = leading_cons p s i h ∙ choose_false _ _ _ e in omega (arith, q.sum)

  pub passing_end : length s ≤ i → i ≡ leading p s
  unfolding leading
  passing_end h = let k : leading p (drop i s) ≡ 0 = rw (drop_of_length-le s {i = i} h) in omega (arith, q.sum)

-- the last character passes the test
pub last_at : (p : ℕ → Bool) (s : List ℕ) → (length s ≡ 0 → ⊥) → p (get_or s (length s - 1) 0) ≡ last_is p s
unfolding last_is
last_at p [] h = absurd (h refl)
last_at p (x ∷ []) h = refl
last_at p (x ∷ y ∷ s) h =
    let e : length (x ∷ y ∷ s) - 1 ≡ suc (length (y ∷ s) - 1) = omega arith in
    rw e (last_at p (y ∷ s) (λ e. absurd (omega arith)))
