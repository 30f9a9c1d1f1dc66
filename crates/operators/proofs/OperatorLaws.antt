-- The places of the operators in the list of the rules.
use Prim.Native.Nat.{ℕ, suc, ◌<◌, ◌≤◌}
use mathlib.Core.Bool.{Bool, true, false, ◌&&◌, ◌||◌, and-false}
use mathlib.Core.List.{List, [], ◌∷◌}
use mathlib.Core.Path.{◌≡◌, refl, sym, ◌∙◌}
use native.Mathlib.Nat.{le_refl}
use native.Mathlib.Omega.{arith}
use lib.Dec.{eqb, ltb}
use Rattle.std.proofs.Common.{lit<}
use Rattle.std.specs.Prelude.{Option, Some, None, is_some}
use lib.ListN.{length, get_or}
use borrow.Author.Tests.{ne_eqb, eqb-true, le-ltb, lt-ltb, ltb-true, ltb-false}
use Rattle.rules.specs.Basics.{choose, same, one_of}
use Rattle.rules.specs.Operators.{operators, index_in}
use Rattle.rules.specs.SplitOperation.{precedence}
use Rattle.utf8.proofs.Tests.{by_test}
use Rattle.operators.specs.Places.{place_of, place_in}
use Rattle.operators.specs.declared.Operator.{Operator}
use Rattle.operators.specs.declared.Operator.TheVariants.{Or, Xor, And, BitOr, BitXor, BitAnd, Equal, NotEqual, Less, Greater, AtMost, AtLeast, ShiftLeft, ShiftRight, Range, Add, Sub, Mul, Div, Rem, Pow}

-- ---- the list of operators

-- the table's strength of the operator that has the place k
pub strength_index : (table w : List ℕ) (k : ℕ) → k ≡ index_in operators w → get_or table k 0 ≡ precedence table w
unfolding precedence
strength_index table w k e = rw e

-- a text is one of the list if it has a place there
ltb_suc : (m n : ℕ) → ltb (suc m) (suc n) ≡ ltb m n
ltb_suc m n =
    by_test (ltb m n) (λ e. lt-ltb (suc m) (suc n) (omega (arith, ltb-true m n e)) ∙ sym e)
    (λ e. le-ltb (suc m) (suc n) (omega (arith, ltb-false m n e)) ∙ sym e)

pub one_of_index : (ks : List (List ℕ)) (w : List ℕ) → one_of ks w ≡ ltb (index_in ks w) (length ks)
unfolding one_of index_in choose
one_of_index [] w = refl
one_of_index (k ∷ ks) w = go (same k w) (one_of_index ks w)
  where
    go : (t : Bool) → one_of ks w ≡ ltb (index_in ks w) (length ks) → (t || one_of ks w) ≡ ltb (choose t 0 (suc (index_in ks w))) (suc (length ks))
    go true r = sym (lt-ltb 0 (suc (length ks)) (omega arith))
    go false r = r ∙ sym (ltb_suc (index_in ks w) (length ks))

pub place_below : (o : Operator) → place_of o < 21
place_below Or = lit< tt
place_below Xor = lit< tt
place_below And = lit< tt
place_below BitOr = lit< tt
place_below BitXor = lit< tt
place_below BitAnd = lit< tt
place_below Equal = lit< tt
place_below NotEqual = lit< tt
place_below Less = lit< tt
place_below Greater = lit< tt
place_below AtMost = lit< tt
place_below AtLeast = lit< tt
place_below ShiftLeft = lit< tt
place_below ShiftRight = lit< tt
place_below Range = lit< tt
place_below Add = lit< tt
place_below Sub = lit< tt
place_below Mul = lit< tt
place_below Div = lit< tt
place_below Rem = lit< tt
place_below Pow = lit< tt

pub is_operator : (w : List ℕ) (o : Operator) → place_of o ≡ index_in operators w → one_of operators w ≡ true
is_operator w o e = one_of_index operators w ∙ rw (← e) (lt-ltb (place_of o) 21 (place_below o))

pub no_operator : (w : List ℕ) (k : ℕ) → k ≡ index_in operators w → 21 ≤ k → one_of operators w ≡ false
no_operator w k e h = one_of_index operators w ∙ rw (← e) (le-ltb k 21 h)

pub found_operator : (w : List ℕ) (r : Option Operator) (b : Bool) → place_in r ≡ index_in operators w → b ≡ is_some r → b ≡ one_of operators w
found_operator w (Some o) b e f = f ∙ sym (is_operator w o e)
found_operator w None b e f = f ∙ sym (no_operator w 21 e (le_refl 21))

-- ---- the places of the operators

-- the constant stands first in the definitions' comparison, second in the code's
off : (k a : ℕ) → (a ≡ k → ⊥) → eqb k a ≡ false
off k a h = ne_eqb k a (λ e. h (sym e))

pub double_none : (a : ℕ) → (a ≡ 124 → ⊥) → (a ≡ 94 → ⊥) → (a ≡ 38 → ⊥) → (a ≡ 61 → ⊥) → (a ≡ 60 → ⊥) → (a ≡ 62 → ⊥) → (a ≡ 46 → ⊥) → (a ≡ 42 → ⊥)
    → 21 ≡ index_in operators (a ∷ a ∷ [])
unfolding index_in same choose
double_none a h1 h2 h3 h4 h5 h6 h7 h8 =
    simp (off 124 a h1, off 94 a h2, off 38 a h3, off 61 a h4, off 60 a h5, off 62 a h6, off 46 a h7, off 42 a h8, and-false)

pub equals_none : (a : ℕ) → (a ≡ 61 → ⊥) → (a ≡ 33 → ⊥) → (a ≡ 60 → ⊥) → (a ≡ 62 → ⊥) → 21 ≡ index_in operators (a ∷ 61 ∷ [])
unfolding index_in same choose
equals_none a h1 h2 h3 h4 = simp (off 61 a h1, off 33 a h2, off 60 a h3, off 62 a h4, and-false)

pub two_none : (a b : ℕ) → (a ≡ b → ⊥) → (b ≡ 61 → ⊥) → 21 ≡ index_in operators (a ∷ b ∷ [])
unfolding index_in same choose
two_none a b h k =
    simp (apart 124, apart 94, apart 38, apart 60, apart 62, apart 46, apart 42, off 61 b k, and-false)
  where
    apart : (n : ℕ) → eqb n a && (eqb n b && true) ≡ false
    apart n = by_test (eqb n a) (λ e. let q : n ≡ a = eqb-true n a e in rw (e, ne_eqb n b (λ r. h (sym q ∙ r)))) (λ e. rw e)

pub one_none : (a : ℕ) → (a ≡ 43 → ⊥) → (a ≡ 45 → ⊥) → (a ≡ 42 → ⊥) → (a ≡ 47 → ⊥) → (a ≡ 37 → ⊥) → (a ≡ 124 → ⊥) → (a ≡ 94 → ⊥) → (a ≡ 38 → ⊥) → (a ≡ 60 → ⊥) → (a ≡ 62 → ⊥)
    → 21 ≡ index_in operators (a ∷ [])
unfolding index_in same choose
one_none a h1 h2 h3 h4 h5 h6 h7 h8 h9 h10 =
    simp (off 43 a h1, off 45 a h2, off 42 a h3, off 47 a h4, off 37 a h5, off 124 a h6, off 94 a h7, off 38 a h8, off 60 a h9, off 62 a h10, and-false)
