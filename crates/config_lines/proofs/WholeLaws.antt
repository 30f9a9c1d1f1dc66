-- A whole number, digit by digit.
use Rattle.std.specs.Prelude.{Some, None}
use Prim.Native.Nat.{ℕ, suc, ◌+◌, ◌-◌, ◌*◌, ◌≤◌, ◌<◌}
use mathlib.Core.Bool.{true, false, ◌&&◌, and-false}
use mathlib.Core.List.{List, [], ◌∷◌, foldl}
use mathlib.Core.Logic.{⊎_elim}
use mathlib.Core.Path.{◌≡◌, refl, sym, ap, ◌∙◌}
use native.Mathlib.Numerals.{add-one}
use native.Mathlib.Omega.{arith}
use borrow.Author.Tests.{lt-ltb, le-ltb, le-leb, lt-leb, ne_eqb, eq-eqb}
use lib.Dec.{eqb, ltb, leb}
use lib.ListN.{length, drop, get_or, drop_of_length-le}
use lib.Seq.{drop-cons}
use Rattle.utf8.proofs.Tests.{split}
use Rattle.rules.proofs.Choose.{choose_true, choose_false}
use Rattle.config_rules.specs.Numbers.{is_digit, digit_count, value}
use Rattle.config_rules.specs.Values.{is_whole}
use Rattle.config_lines.specs.Whole.{WholeOf}
use Rattle.config_lines.proofs.ValueLaws.{not_whole}

abbrev step : ℕ → ℕ → ℕ
step n c = n * 10 + (c - 48)

fold_least : (a : ℕ) (l : List ℕ) → a ≤ foldl step a l
fold_least a [] = omega arith
fold_least a (c ∷ l) = omega (arith, fold_least (step a c) l)

-- n is the value of the first i characters, all digits
pub record Adding (v : List ℕ) (i n : ℕ) : Type 0 where
  pub some : length v ≡ 0 → ⊥
  pub bound : i ≤ length v
  pub small : n ≤ 4_294_967_295
  pub digits : digit_count v ≡ i + digit_count (drop i v)
  pub is : value v ≡ foldl step n (drop i v)

pub adding_start : (v : List ℕ) → (length v ≡ 0 → ⊥) → Adding v 0 0
unfolding value
adding_start v n = record { some = n; bound = omega arith; small = omega arith; digits = omega arith; is = refl }

none_is : (v : List ℕ) → is_whole v ≡ false → WholeOf v None
none_is v e = record { is = sym (choose_false _ _ _ e) }

count_other : (c : ℕ) (s : List ℕ) → is_digit c ≡ false → digit_count (c ∷ s) ≡ 0
unfolding digit_count
count_other c s t = choose_false (is_digit c) (suc (digit_count s)) 0 t

count_digit : (c : ℕ) (s : List ℕ) → is_digit c ≡ true → digit_count (c ∷ s) ≡ suc (digit_count s)
unfolding digit_count
count_digit c s t = choose_true (is_digit c) (suc (digit_count s)) 0 t

count_none : digit_count [] ≡ 0
unfolding digit_count
count_none = refl

too_large_law : (v : List ℕ) → leb (value v) 4_294_967_295 ≡ false → is_whole v ≡ false
unfolding is_whole
too_large_law v l = rw (l, and-false (ltb 0 (length v) && eqb (digit_count v) (length v)))

all_digits_law : (v : List ℕ) → ltb 0 (length v) ≡ true → eqb (digit_count v) (length v) ≡ true → leb (value v) 4_294_967_295 ≡ true → is_whole v ≡ true
unfolding is_whole
all_digits_law v s q l = rw (s, q, l)

pub whole_empty : (v : List ℕ) → length v ≡ 0 → WholeOf v None
unfolding is_whole
whole_empty v e = none_is v (rw (le-ltb 0 (length v) (omega arith)))

module _ (v : List ℕ) (i n : ℕ) (w : Adding v i n) where
  pub not_digit : i < length v → is_digit (get_or v i 0) ≡ false → WholeOf v None
  not_digit h t =
      let z : digit_count (drop i v) ≡ 0 = ap digit_count (drop-cons v i 0 h) ∙ count_other (get_or v i 0) (drop (suc i) v) t in
      let d : eqb (digit_count v) (length v) ≡ false = ne_eqb (digit_count v) (length v) (λ q. absurd (omega (arith, w.digits, z, q))) in
      none_is v (not_whole v d)

  next : i < length v → value v ≡ foldl step (n * 10 + (get_or v i 0 - 48)) (drop (suc i) v)
  next h = w.is ∙ ap (foldl step n) (drop-cons v i 0 h)

  pub whole_large : i < length v → 4_294_967_295 < n * 10 + (get_or v i 0 - 48) → WholeOf v None
  whole_large h k =
      let l : leb (value v) 4_294_967_295 ≡ false =
      lt-leb (value v) 4_294_967_295 (omega (arith, next h, fold_least (n * 10 + (get_or v i 0 - 48)) (drop (suc i) v))) in
      none_is v (too_large_law v l)

  pub adding_more : i < length v → is_digit (get_or v i 0) ≡ true → n * 10 + (get_or v i 0 - 48) ≤ 4_294_967_295 → Adding v (i + 1) (n * 10 + (get_or v i 0 - 48))
  adding_more h t k =
      let z : digit_count (drop i v) ≡ suc (digit_count (drop (suc i) v)) = ap digit_count (drop-cons v i 0 h) ∙ count_digit (get_or v i 0) (drop (suc i) v) t in
      record {
        some = w.some;
        bound = omega arith;
        small = k;
        digits = rw (add-one i) (omega (arith, w.digits, z));
        is = rw (add-one i) (next h);
      }

  pub whole_end : length v ≤ i → WholeOf v (Some n)
  whole_end h =
      let b : i ≤ length v = w.bound in
      let d : drop i v ≡ [] = drop_of_length-le v {i = i} h in
      let e : value v ≡ n = w.is ∙ ap (foldl step n) d in
      let z : digit_count (drop i v) ≡ 0 = ap digit_count d ∙ count_none in
      let q : eqb (digit_count v) (length v) ≡ true = eq-eqb (digit_count v) (length v) (omega (arith, w.digits, z)) in
      let s : ltb 0 (length v) ≡ true = ⊎_elim (λ (x : 0 < length v). lt-ltb 0 (length v) x) (λ (x : length v ≤ 0). absurd (w.some (omega arith))) (split 0 (length v)) in
      let l : leb (value v) 4_294_967_295 ≡ true = le-leb (value v) 4_294_967_295 (omega (arith, w.small, e)) in
      record { is = sym (choose_true (is_whole v) (Some (value v)) None (all_digits_law v s q l) ∙ ap Some e) }
