-- The library's test of what a list starts with is `starts_with`; a list that starts with one character; a word that a
-- list starts with, and what follows it.
use Prim.Native.Nat.{ℕ, ◌≤◌, ◌<◌}
use native.Mathlib.Omega.{arith}
use mathlib.Core.Bool.{Bool, true, false, ◌&&◌, or-false}
use mathlib.Core.List.{List, [], ◌∷◌}
use mathlib.Core.Path.{◌≡◌, refl, sym, ap₂, ◌∙◌}
use borrow.Author.Tests.{eq-eqb, ne_eqb, eqb-true, eqb-false}
use lib.ListN.{length, get_or, drop_of_length-le}
use lib.Seq.{drop-cons}
use lib.Dec.{eqb}
use Rattle.std.specs.List.{starts_with as list_starts_with}
use Rattle.utf8.proofs.Tests.{by_test}
use Rattle.rules.specs.Basics.{starts_with, first_is, starts_then}

eqb_swap : (a b : ℕ) → eqb a b ≡ eqb b a
eqb_swap a b = by_test (eqb a b) (λ t. t ∙ sym (eq-eqb b a (sym (eqb-true a b t)))) (λ t. t ∙ sym (ne_eqb b a (λ e. eqb-false a b t (sym e))))

pub starts_as_list : (l w : List ℕ) → list_starts_with eqb l w ≡ starts_with l w
unfolding starts_with
starts_as_list [] [] = refl
starts_as_list (c ∷ l) [] = refl
starts_as_list [] (d ∷ w) = refl
starts_as_list (c ∷ l) (d ∷ w) = ap₂ (λ (x y : Bool). x && y) (eqb_swap d c) (starts_as_list l w)

-- another first character
pub other_first : (l w : List ℕ) → (get_or l 0 0 ≡ get_or w 0 0 → ⊥) → 1 ≤ length l → 1 ≤ length w → false ≡ starts_with l w
unfolding starts_with
other_first [] w h m n = absurd (omega arith)
other_first (c ∷ l) [] h m n = absurd (omega arith)
other_first (c ∷ l) (d ∷ w) h m n = rw (ne_eqb c d h)

-- a list that starts with one character
pub is_none : (c : ℕ) (s : List ℕ) → length s < 1 → false ≡ starts_with s (c ∷ [])
unfolding starts_with
is_none c [] h = refl
is_none c (x ∷ s) h = absurd (omega arith)

pub first_same : (c : ℕ) (s : List ℕ) → 1 ≤ length s → get_or s 0 0 ≡ c → true ≡ starts_with s (c ∷ [])
unfolding starts_with
first_same c [] h e = absurd (omega arith)
first_same c (x ∷ s) h e = rw (eq-eqb x c e)

pub first_other : (c : ℕ) (s : List ℕ) → 1 ≤ length s → (get_or s 0 0 ≡ c → ⊥) → false ≡ starts_with s (c ∷ [])
unfolding starts_with
first_other c [] h e = absurd (omega arith)
first_other c (x ∷ s) h e = rw (ne_eqb x c e)

-- a word, and what follows it
module _ (line word : List ℕ) (p : ℕ → Bool) (end : Bool) where
  pub then_no : starts_with line word ≡ false → false ≡ starts_then word p end line
  unfolding starts_then
  then_no h = rw h

  pub then_end : starts_with line word ≡ true → length line ≤ length word → end ≡ starts_then word p end line
  unfolding starts_then first_is
  then_end h l = rw (h, drop_of_length-le line)

  pub then_next : starts_with line word ≡ true → length word < length line → p (get_or line (length word) 0) ≡ starts_then word p end line
  unfolding starts_then first_is
  then_next h l = sym (rw (h, drop-cons line (length word) 0, or-false))
