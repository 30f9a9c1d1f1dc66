-- The entries of a list of places, by their numbers, and their order.
use Prim.Native.Nat.{ℕ, zero, suc, ◌+◌, ◌-◌, ◌*◌, ◌/◌, ◌<◌, ◌≤◌, zero-le}
use native.Mathlib.Omega.{arith}
use native.Mathlib.Numerals.{add-one}
use mathlib.Core.Bool.{Bool, true, false, not, ◌&&◌, ◌||◌}
use mathlib.Core.List.{List, [], ◌∷◌}
use mathlib.Core.Logic.{◌⊎◌, inl, inr}
use mathlib.Core.Path.{◌≡◌, refl, sym, ap, ◌∙◌}
use borrow.Author.Tests.{eq-eqb, ne_eqb, lt-ltb, le-ltb, le-leb, lt-leb, ltb-true, leb-true, eqb-true}
use Rattle.std.specs.Prelude.{Some, None}
use Rattle.std.proofs.Common.{Ordering}
use Rattle.std.specs.List.{list_any, range_with_len}
use Rattle.std.specs.Ordering.{nat_cmp, partial_ordering_then, is_some_and, is_lt}
use Rattle.std.proofs.lemmas.Cmp.{ranked}
use lib.Dec.{eqb, leb, ltb}
use lib.ListN.{length, get_or, drop, length-drop}
use lib.Seq.{drop-cons}
use Rattle.utf8.proofs.Tests.{split, and_left, and_right}
use Rattle.text_kinds.specs.Places.{Place, place_at, places_in, not_after, ascending}
use Rattle.text_kinds.specs.Reading.{line_of, column_of, place_count, From, EntryAt}

-- ---- entries by number

pub count_half : (list : List ℕ) → place_count list ≡ length list / 2
unfolding places_in
count_half [] = refl
count_half (l ∷ []) = refl
count_half (l ∷ c ∷ list) = let r = count_half list in omega arith

pub place_at_law : (list : List ℕ) (k : ℕ) (d : Place) → k < place_count list → get_or (places_in list) k d ≡ place_at (line_of list k) (column_of list k)
unfolding places_in
place_at_law [] k d h = absurd (omega arith)
place_at_law (l ∷ []) k d h = absurd (omega arith)
place_at_law (l ∷ c ∷ list) zero d h = refl
place_at_law (l ∷ c ∷ list) (suc k) d h =
    let e : 2 * suc k ≡ suc (suc (2 * k)) = omega arith in
    let f : 2 * suc k + 1 ≡ suc (suc (2 * k + 1)) = omega arith in
    place_at_law list k d (omega arith)
    ∙ ap (λ (n : ℕ). place_at (get_or (l ∷ c ∷ list) n 0) (column_of list k)) (sym e)
    ∙ ap (λ (n : ℕ). place_at (line_of (l ∷ c ∷ list) (suc k)) (get_or (l ∷ c ∷ list) n 0)) (sym f)

-- ---- order

pub not_after_from : (p q : Place) → not_after p q ≡ true → From p.line p.column q.line q.column
unfolding not_after
not_after_from p q h = later (ltb p.line q.line) refl h
  where
    later : (b : Bool) → b ≡ ltb p.line q.line → (b || (eqb p.line q.line && leb p.column q.column)) ≡ true → From p.line p.column q.line q.column
    later true e f = inl (ltb-true _ _ (sym e))
    later false e f =
        let a : Bool = eqb p.line q.line in
        let b : Bool = leb p.column q.column in
        inr (eqb-true _ _ (and_left a b f), leb-true _ _ (and_right a b f))

-- `q < p`, which goes by the line, then by the column
abbrev pub before : Place → Place → Bool
before q p = is_some_and is_lt (partial_ordering_then (Some (nat_cmp q.line p.line)) (Some (nat_cmp q.column p.column)))

not_before : (p q : Place) → not (before q p) ≡ not_after p q
unfolding not_after
not_before p q = go (nat_cmp q.line p.line) (nat_cmp q.column p.column) refl refl
  where
    go : (o u : Ordering) → o ≡ nat_cmp q.line p.line → u ≡ nat_cmp q.column p.column
        → not (is_some_and is_lt (partial_ordering_then (Some o) (Some u))) ≡ (ltb p.line q.line || (eqb p.line q.line && leb p.column q.column))
    go Ordering.Less u e f =
        let h : q.line < p.line = ranked _ _ Ordering.Less e in
        rw (le-ltb p.line q.line (omega arith), ne_eqb p.line q.line (λ z. omega arith)) refl
    go Ordering.Greater u e f =
        let h : p.line < q.line = ranked _ _ Ordering.Greater e in
        rw (lt-ltb p.line q.line h) refl
    go Ordering.Equal Ordering.Less e f =
        let h : q.line ≡ p.line = ranked _ _ Ordering.Equal e in
        let k : q.column < p.column = ranked _ _ Ordering.Less f in
        rw (le-ltb p.line q.line (omega arith), lt-leb p.column q.column k, eq-eqb p.line q.line (sym h)) refl
    go Ordering.Equal Ordering.Equal e f =
        let h : q.line ≡ p.line = ranked _ _ Ordering.Equal e in
        let k : q.column ≡ p.column = ranked _ _ Ordering.Equal f in
        rw (le-ltb p.line q.line (omega arith), le-leb p.column q.column (omega arith), eq-eqb p.line q.line (sym h)) refl
    go Ordering.Equal Ordering.Greater e f =
        let h : q.line ≡ p.line = ranked _ _ Ordering.Equal e in
        let k : p.column < q.column = ranked _ _ Ordering.Greater f in
        rw (le-ltb p.line q.line (omega arith), le-leb p.column q.column (omega arith), eq-eqb p.line q.line (sym h)) refl

-- one place after the other, in a list in order
ascending_next : (ps : List Place) (k : ℕ) (d : Place) → ascending ps ≡ true → suc k < length ps → not_after (get_or ps k d) (get_or ps (suc k) d) ≡ true
unfolding ascending
ascending_next [] k d e h = absurd (omega arith)
ascending_next (p ∷ []) k d e h = absurd (omega arith)
ascending_next (p ∷ q ∷ ps) zero d e h = and_left (not_after p q) (ascending (q ∷ ps)) e
ascending_next (p ∷ q ∷ ps) (suc k) d e h = ascending_next (q ∷ ps) k d (and_right (not_after p q) (ascending (q ∷ ps)) e) (omega arith)

pub from_next : (list : List ℕ) (k : ℕ) → ascending (places_in list) ≡ true → k + 1 < place_count list
    → From (line_of list k) (column_of list k) (line_of list (k + 1)) (column_of list (k + 1))
from_next list k e h =
    let d : Place = place_at 0 0 in
    let n : suc k < place_count list = omega arith in
    let q = rw (place_at_law list k d (omega arith), place_at_law list (suc k) d n) at (ascending_next (places_in list) k d e n) in
    rw add-one (not_after_from _ _ q)

pub from_trans : {a b c d e f : ℕ} → From a b c d → From c d e f → From a b e f
from_trans (inl h) (inl k) = inl (omega arith)
from_trans (inl h) (inr k) = inl (omega arith)
from_trans (inr h) (inl k) = inl (omega arith)
from_trans (inr h) (inr k) = inr (omega arith, omega arith)

-- not before a place, and another one: not before the next column; on another line: not before the next line
pub from_column : {line column l c : ℕ} → From line column l c → (l ≡ line → c ≡ column → ⊥) → From line (suc column) l c
from_column (inl h) n = inl h
from_column {line} {column} {l} {c} (inr h) n = inr (h.0, go (split column c))
  where
    go : (column < c) ⊎ (c ≤ column) → suc column ≤ c
    go (inl k) = omega arith
    go (inr k) = absurd (n (sym h.0) (omega arith))

pub from_line : {line column l c : ℕ} → From line column l c → (l ≡ line → ⊥) → From (suc line) 0 l c
from_line {line} {column} {l} {c} (inl h) n = go (split (suc line) l)
  where
    go : (suc line < l) ⊎ (l ≤ suc line) → From (suc line) 0 l c
    go (inl k) = inl k
    go (inr k) = inr (omega arith, zero-le)
from_line (inr h) n = absurd (n (sym h.0))

-- ---- the tests of an entry

never : false ≡ true → ⊥
never e = let z : ◌≡◌ {A = ℕ} 0 1 = cc in omega arith

module _ (list : List ℕ) (k : ℕ) where
  pub entry_there : k < length list / 2 → EntryAt list k (Some (place_at (line_of list k) (column_of list k)))
  entry_there h =
      record {
        some = λ p e. let y : place_at (line_of list k) (column_of list k) ≡ p = cc in (omega (arith, count_half list), sym y);
        none = λ e. absurd (cc);
      }

  pub entry_past : length list / 2 ≤ k → EntryAt list k None
  entry_past h = record { some = λ p e. absurd (cc); none = λ e. omega (arith, count_half list) }

-- ---- the test of `is_ascending`

ascending_two : (ps : List Place) (i k : ℕ) (d : Place) → k ≡ suc i → k < length ps
    → ascending (drop i ps) ≡ (not_after (get_or ps i d) (get_or ps k d) && ascending (drop k ps))
unfolding ascending
ascending_two ps i k d e h =
    let n : suc i < length ps = omega arith in
    rw (e, drop-cons ps i d (omega arith), drop-cons ps (suc i) d n)

-- entry k is before the one in front of it
abbrev pub before_in : List ℕ → ℕ → Bool
before_in list k = before (place_at (line_of list k) (column_of list k)) (place_at (line_of list (k - 1)) (column_of list (k - 1)))

few : (ps : List Place) → length ps ≤ 1 → ascending ps ≡ true
unfolding ascending
few [] h = refl
few (p ∷ []) h = refl
few (p ∷ q ∷ ps) h = absurd (omega arith)

neither : (b r : Bool) → not (b || r) ≡ (not b && not r)
neither true r = refl
neither false r = refl

none_before : (list : List ℕ) (k n : ℕ) → k + 1 + n ≡ place_count list
    → not (list_any (before_in list) (range_with_len (k + 1) n)) ≡ ascending (drop k (places_in list))
none_before list k zero h = sym (few (drop k (places_in list)) (omega (arith, length-drop k (places_in list))))
none_before list k (suc n) h =
    let d : Place = place_at 0 0 in
    let j : k + 1 - 1 ≡ k = omega arith in
    let t : not_after (get_or (places_in list) k d) (get_or (places_in list) (k + 1) d) ≡ not (before_in list (k + 1)) =
    rw (place_at_law list k d (omega arith), place_at_law list (k + 1) d (omega arith), j) (sym (not_before _ _))
    in
    neither (before_in list (k + 1)) (list_any (before_in list) (range_with_len (k + 1 + 1) n))
    ∙ ap (λ (b : Bool). not (before_in list (k + 1)) && b) (none_before list (k + 1) n (omega arith))
    ∙ ap (λ (b : Bool). b && ascending (drop (k + 1) (places_in list))) (sym t)
    ∙ sym (ascending_two (places_in list) k (k + 1) d (omega arith) (omega arith))

-- the test of `is_ascending`: no entry is before the one in front of it
pub ascends : (list : List ℕ) → not (list_any (before_in list) (range_with_len 1 (length list / 2 - 1))) ≡ ascending (places_in list)
ascends list = go (place_count list) refl
  where
    go : (n : ℕ) → place_count list ≡ n
        → not (list_any (before_in list) (range_with_len 1 (length list / 2 - 1))) ≡ ascending (places_in list)
    go zero e =
        let z : length list / 2 - 1 ≡ 0 = omega (arith, count_half list) in
        rw z (sym (few (places_in list) (omega (arith, e))))
    go (suc n) e =
        let z : length list / 2 - 1 ≡ n = omega (arith, count_half list) in
        rw z (none_before list 0 n (omega (arith, e)))
