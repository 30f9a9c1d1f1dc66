-- The ends of a range: their digits, and the zeros before them.
use Prim.Native.Nat.{ℕ, zero, suc, ◌+◌, ◌-◌, ◌*◌, ◌≤◌, ◌<◌, max}
use mathlib.Core.Bool.{Bool, true, false, not, true≢false}
use mathlib.Core.List.{List, [], ◌∷◌, ◌++◌, foldl}
use mathlib.Core.Logic.{⊎_elim}
use mathlib.Core.Path.{◌≡◌, refl, sym, ap, ◌∙◌, subst}
use native.Mathlib.Omega.{arith}
use native.Mathlib.Nat.{add-zero}
use mir.Val.{bool_byte}
use borrow.Author.Tests.{lt-ltb, le-ltb, eq-eqb, ne_eqb, eqb-true, eqb-false, not-false, not-true}
use lib.Dec.{eqb, ltb}
use lib.ListN.{length, drop, take, get_or, length-drop, drop_of_length-le}
use lib.Seq.{take-nil, drop-cons, take-suc, get_or-drop, drop-drop}
use Rattle.utf8.proofs.Tests.{split, by_test, in_range_law}
use Rattle.std.specs.Prelude.{Option, Some, None}
use Rattle.std.specs.Option.{MatchOption, IsSome}
use Rattle.blocks.specs.Blocks.{FirstFrom}
use Rattle.rules.specs.Basics.{choose, is, first_is}
use Rattle.rules.proofs.Choose.{choose_case, choose_true, choose_false}
use Rattle.config_rules.specs.Numbers.{is_digit, digit_count, sign, number_len, value}
use Rattle.glob_name.specs.Read.{rest_more, range_more, NumberAt}
use Rattle.ranges.specs.Slots.{digit, all_digits, all, minus, size}
use Rattle.ranges.specs.Ranges.{lows, EndAt, RangeOf, PastZeros, past_zeros, end_of, range_for, second_at}
use Rattle.ranges.specs.declared.End.{End}
use Rattle.ranges.specs.declared.Range.{Range}

-- ---- values

abbrev step : ℕ → ℕ → ℕ
step n c = n * 10 + (c - 48)

fold_snoc : (a : ℕ) (l : List ℕ) (c : ℕ) → foldl step a (l ++ (c ∷ [])) ≡ step (foldl step a l) c
fold_snoc a [] c = refl
fold_snoc a (x ∷ l) c = fold_snoc (step a x) l c

value_snoc : (l : List ℕ) (c : ℕ) → value (l ++ (c ∷ [])) ≡ value l * 10 + (c - 48)
unfolding value
value_snoc l c = fold_snoc 0 l c

-- the n digits before i + n are those from i on
lows_value : (cs : List ℕ) (i n : ℕ) → i + n ≤ length cs → all (lows cs (i + n) n) ≡ value (take n (drop i cs))
unfolding lows all digit
lows_value cs i zero h = unfold value in refl
lows_value cs i (suc n) h =
    let r : all (lows cs (i + n) n) ≡ value (take n (drop i cs)) = lows_value cs i n (omega arith) in
    let e : i + suc n - 1 ≡ i + n = omega arith in
    let d : n < length (drop i cs) = rw (length-drop i cs) (omega arith) in
    rw (e, take-suc (drop i cs) n 0 d, value_snoc (take n (drop i cs)) (get_or (drop i cs) n 0), get_or-drop i cs n 0)
    (omega (arith, r))

digits_in : (s : List ℕ) (j : ℕ) → j < digit_count s → is_digit (get_or s j 0) ≡ true
unfolding digit_count
digits_in [] j h = absurd (omega arith)
digits_in (c ∷ s) zero h =
    by_test (is_digit c) (λ t. t)
    (λ t. let k : choose (is_digit c) (suc (digit_count s)) 0 ≡ 0 = choose_false (is_digit c) (suc (digit_count s)) 0 t in absurd (omega (arith, k)))
digits_in (c ∷ s) (suc j) h =
    by_test (is_digit c)
    (λ t. let k : choose (is_digit c) (suc (digit_count s)) 0 ≡ suc (digit_count s) = choose_true (is_digit c) (suc (digit_count s)) 0 t in
    digits_in s j (omega (arith, k)))
    (λ t. let k : choose (is_digit c) (suc (digit_count s)) 0 ≡ 0 = choose_false (is_digit c) (suc (digit_count s)) 0 t in absurd (omega (arith, k)))

all_lows : (cs : List ℕ) (e n : ℕ) → n ≤ e → ((q : ℕ) → e - n ≤ q → q < e → is_digit (get_or cs q 0) ≡ true) → all_digits (lows cs e n) ≡ true
unfolding lows all_digits
all_lows cs e zero h f = refl
all_lows cs e (suc n) h f = rw (f (e - 1) (omega arith) (omega arith)) (all_lows cs (e - 1) n (omega arith) (λ q a b. f q (omega arith) (omega arith)))

led_lows : (cs : List ℕ) (e n : ℕ) → n ≤ e → 0 < n → 1 ≤ digit (get_or cs (e - n) 0) → 0 < all (lows cs e n)
unfolding lows all
led_lows cs e zero h k d = absurd (omega arith)
led_lows cs e (suc zero) h k d = omega arith
led_lows cs e (suc (suc n)) h k d =
    let z : e - suc (suc n) ≡ e - 1 - suc n = omega arith in
    let i : 0 < all (lows cs (e - 1) (suc n)) = led_lows cs (e - 1) (suc n) (omega arith) (omega arith) (rw z at d) in
    unfold lows in unfold all in omega arith

drop_lows : (cs : List ℕ) (e n j : ℕ) → drop j (lows cs e n) ≡ lows cs (e - j) (n - j)
unfolding lows
drop_lows cs e n zero = let a : e - 0 ≡ e = omega arith in let b : n - 0 ≡ n = omega arith in rw (a, b)
drop_lows cs e zero (suc j) = let b : 0 - suc j ≡ 0 = omega arith in rw b
drop_lows cs e (suc n) (suc j) =
    drop_lows cs (e - 1) n j ∙ (let a : e - 1 - j ≡ e - suc j = omega arith in let b : n - j ≡ suc n - suc j = omega arith in rw (a, b))

led_is : (cs : List ℕ) (e n : ℕ) → n ≤ e → (0 < n → 1 ≤ digit (get_or cs (e - n) 0)) → (j : ℕ) → ltb 0 (all (drop j (lows cs e n))) ≡ ltb j n
led_is cs e n h f j =
    ⊎_elim
    (λ (k : j < n).
    let z : e - n ≡ e - j - (n - j) = omega arith in
    rw (drop_lows cs e n j, lt-ltb j n k)
    (lt-ltb 0 (all (lows cs (e - j) (n - j))) (led_lows cs (e - j) (n - j) (omega arith) (omega arith) (rw z at (f (omega arith))))))
    (λ (k : n ≤ j).
    let z : n - j ≡ 0 = omega arith in
    rw (drop_lows cs e n j, le-ltb j n k, z) (unfold lows in unfold all in refl))
    (split j n)

value_zero : (l : List ℕ) → value (48 ∷ l) ≡ value l
unfolding value
value_zero l = refl

-- d zeros from i on
value_past : (cs : List ℕ) (i n d : ℕ) → d ≤ n → i + n ≤ length cs → ((j : ℕ) → i ≤ j → j < i + d → get_or cs j 0 ≡ 48)
    → value (take n (drop i cs)) ≡ value (take (n - d) (drop (i + d) cs))
value_past cs i n zero h k f = let a : n - 0 ≡ n = omega arith in let b : i + 0 ≡ i = omega arith in rw (a, b)
value_past cs i zero (suc d) h k f = absurd (omega arith)
value_past cs i (suc n) (suc d) h k f =
    let a : suc n - suc d ≡ n - d = omega arith in
    let b : i + suc d ≡ suc i + d = omega arith in
    let z : get_or cs i 0 ≡ 48 = f i (omega arith) (omega arith) in
    rw (a, b, drop-cons cs i 0 (omega arith), z) (value_zero (take n (drop (suc i) cs)) ∙ value_past cs (suc i) n d (omega arith) (omega arith) (λ j x y. f j (omega arith) (omega arith)))

digit_some : (c : ℕ) → is_digit c ≡ true → (c ≡ 48 → ⊥) → 1 ≤ digit c
unfolding digit
digit_some c t n =
    let r : (48 ≤ c) × (c ≤ 57) = in_range_law 48 57 c t in
    ⊎_elim (λ (h : 48 < c). omega arith) (λ (h : c ≤ 48). absurd (n (omega arith))) (split 48 c)

module _ (cs m : List ℕ) (from end i : ℕ) (b : Bool) (h : from ≤ end) (k : end ≤ length cs)
    (f : (q : ℕ) → from ≤ q → q < end → is_digit (get_or cs q 0) ≡ true) (w : PastZeros cs from end i)
    (v : size m ≡ value (take (end - from) (drop from cs))) (g : b ≡ minus m) where
  pub end_is : EndAt cs m (record { minus = b; end = end; digits = end - i })
  end_is =
      let a : from ≤ i = w.start in
      let c : i ≤ end = w.stop in
      let z : end - (end - i) ≡ i = omega arith in
      let y : i + (end - i) ≡ end = omega arith in
      let x : from + (i - from) ≡ i = omega arith in
      let u : end - from - (i - from) ≡ end - i = omega arith in
      record {
        fits = omega arith;
        bound = k;
        digits = all_lows cs end (end - i) (omega arith) (λ q p r. f q (omega arith) r);
        value =
            ap (λ (n : ℕ). all (lows cs n (end - i))) (sym y) ∙ lows_value cs i (end - i) (omega arith)
            ∙ sym (v ∙ value_past cs from (end - from) (i - from) (omega arith) (omega arith) (λ j p r. w.zeros j p (omega arith)) ∙ rw (x, u));
        led = led_is cs end (end - i) (omega arith) (λ p. rw z (digit_some (get_or cs i 0) (f i a (omega arith)) (w.other (omega arith))));
        sign = g;
      }

-- ---- a number at `from`, n characters long

first_take : (p : ℕ → Bool) (n : ℕ) (s : List ℕ) → 0 < n → first_is p (take n s) ≡ first_is p s
unfolding first_is
first_take p zero s h = absurd (omega arith)
first_take p (suc n) [] h = refl
first_take p (suc n) (c ∷ s) h = refl

drop_take_one : (n : ℕ) (s : List ℕ) → drop 1 (take n s) ≡ take (n - 1) (drop 1 s)
drop_take_one zero s = refl
drop_take_one (suc n) [] = sym (take-nil (suc n - 1))
drop_take_one (suc n) (c ∷ s) = let z : suc n - 1 ≡ n = omega arith in rw z

module _ (cs : List ℕ) (from n i : ℕ) (e : n ≡ number_len (drop from cs)) (some : 0 < n) (k : from + n ≤ length cs) where
  first_is_law : (p : ℕ → Bool) → first_is p (drop from cs) ≡ p (get_or cs from 0)
  unfolding first_is
  first_is_law p = rw (drop-cons cs from 0 (omega arith))

  minus_is : minus (take n (drop from cs)) ≡ eqb (get_or cs from 0) 45
  minus_is = first_take (is "-") n (drop from cs) some ∙ first_is_law (is "-")

  count_minus : get_or cs from 0 ≡ 45 → n ≡ 1 + digit_count (drop (from + 1) cs)
  unfolding number_len sign
  count_minus c =
      let t : first_is (is "-") (drop from cs) ≡ true = first_is_law (is "-") ∙ eq-eqb (get_or cs from 0) 45 c in
      let s : ◌≡◌ {A = ℕ} (choose (first_is (is "-") (drop from cs)) 1 0) 1 = choose_true _ 1 0 t in
      let d : ℕ = digit_count (drop (from + 1) cs) in
      let q : n ≡ choose (eqb d 0) 0 (1 + d) = rw (s, drop-drop 1 from cs) at e in
      by_test (eqb d 0) (λ u. absurd (let z : choose (eqb d 0) 0 (1 + d) ≡ 0 = choose_true _ _ _ u in omega (arith, q, z))) (λ u. q ∙ choose_false _ _ _ u)

  count_plain : (get_or cs from 0 ≡ 45 → ⊥) → n ≡ digit_count (drop from cs)
  unfolding number_len sign
  count_plain c =
      let t : first_is (is "-") (drop from cs) ≡ false = first_is_law (is "-") ∙ ne_eqb (get_or cs from 0) 45 c in
      let s : ◌≡◌ {A = ℕ} (choose (first_is (is "-") (drop from cs)) 1 0) 0 = choose_false _ 1 0 t in
      let d : ℕ = digit_count (drop from cs) in
      let q : n ≡ choose (eqb d 0) 0 (0 + d) = rw s at e in
      by_test (eqb d 0) (λ u. absurd (let z : choose (eqb d 0) 0 (0 + d) ≡ 0 = choose_true _ _ _ u in omega (arith, q, z))) (λ u. q ∙ choose_false _ _ _ u ∙ omega arith)

  digit_in_law : (at : ℕ) → at ≤ length cs → (q : ℕ) → at ≤ q → q < at + digit_count (drop at cs) → is_digit (get_or cs q 0) ≡ true
  digit_in_law at l q a b =
      let z : at + (q - at) ≡ q = omega arith in
      sym (ap is_digit (get_or-drop at cs (q - at) 0 ∙ ap (λ (j : ℕ). get_or cs j 0) z)) ∙ digits_in (drop at cs) (q - at) (omega arith)

  end_minus : get_or cs from 0 ≡ 45 → PastZeros cs (from + 1) (from + n) i
      → EndAt cs (take n (drop from cs)) (record { minus = true; end = from + n; digits = from + n - i }) × (from + n - i ≤ n)
      × (record { minus = true; end = from + n; digits = from + n - i } ≡ end_of cs from n)
  unfolding end_of choose
  end_minus c w =
      let q : n ≡ 1 + digit_count (drop (from + 1) cs) = count_minus c in
      let a : from + 1 ≤ i = w.start in
      let x : from + n - (from + 1) ≡ n - 1 = omega arith in (
        end_is cs (take n (drop from cs)) (from + 1) (from + n) i true (omega arith) k
            (λ j y z. digit_in_law (from + 1) (omega arith) j y (omega arith)) w
            (size_minus c ∙ rw x) (sym (minus_is ∙ eq-eqb (get_or cs from 0) 45 c)),
        omega arith,
        rw (eq-eqb (get_or cs from 0) 45 c, ← w.is),
      )
    where
      size_minus : get_or cs from 0 ≡ 45 → size (take n (drop from cs)) ≡ value (take (n - 1) (drop (from + 1) cs))
      size_minus c =
          unfold size in unfold sign in
          let t : minus (take n (drop from cs)) ≡ true = minus_is ∙ eq-eqb (get_or cs from 0) 45 c in
          let s : ◌≡◌ {A = ℕ} (choose (minus (take n (drop from cs))) 1 0) 1 = choose_true _ 1 0 t in
          rw (s, drop_take_one n (drop from cs), drop-drop 1 from cs)

  end_plain : (get_or cs from 0 ≡ 45 → ⊥) → PastZeros cs from (from + n) i
      → EndAt cs (take n (drop from cs)) (record { minus = false; end = from + n; digits = from + n - i }) × (from + n - i ≤ n)
      × (record { minus = false; end = from + n; digits = from + n - i } ≡ end_of cs from n)
  unfolding end_of choose
  end_plain c w =
      let q : n ≡ digit_count (drop from cs) = count_plain c in
      let a : from ≤ i = w.start in
      let x : from + n - from ≡ n = omega arith in (
        end_is cs (take n (drop from cs)) from (from + n) i false (omega arith) k
            (λ j y z. digit_in_law from (omega arith) j y (omega arith)) w
            (size_plain c ∙ rw x) (sym (minus_is ∙ ne_eqb (get_or cs from 0) 45 c)),
        omega arith,
        rw (ne_eqb (get_or cs from 0) 45 c, ← w.is),
      )
    where
      size_plain : (get_or cs from 0 ≡ 45 → ⊥) → size (take n (drop from cs)) ≡ value (take n (drop from cs))
      size_plain c =
          unfold size in unfold sign in
          let t : minus (take n (drop from cs)) ≡ false = minus_is ∙ ne_eqb (get_or cs from 0) 45 c in
          let s : ◌≡◌ {A = ℕ} (choose (minus (take n (drop from cs))) 1 0) 0 = choose_false _ 1 0 t in
          rw s

  pub sign_inside : (b : Bool) (d : ℕ) → d ≡ bool_byte b → (from + d ≤ from + n) × (from + n ≤ length cs)
  sign_inside true d f = (omega arith, k)
  sign_inside false d f = (omega arith, k)

  pub end_either : (b : Bool) → b ≡ eqb (get_or cs from 0) 45 → (d : ℕ) → d ≡ bool_byte b
      → PastZeros cs (from + d) (from + n) i
      → EndAt cs (take n (drop from cs)) (record { minus = b; end = from + n; digits = from + n - i })
      × (from + n - i ≤ n)
      × (record { minus = b; end = from + n; digits = from + n - i } ≡ end_of cs from n)
  end_either true f d g w =
      end_minus (eqb-true (get_or cs from 0) 45 (sym f))
      (subst (λ (x : ℕ). PastZeros cs (from + x) (from + n) i) g w)
  end_either false f d g w =
      let z : from + d ≡ from = ap (λ (x : ℕ). from + x) g ∙ add-zero from in
      end_plain (eqb-false (get_or cs from 0) 45 (sym f)) (subst (λ (x : ℕ). PastZeros cs x (from + n) i) z w)

-- ---- zeros

past_first : (cs : List ℕ) (from n i : ℕ) → from ≤ i → i ≤ from + n → ((j : ℕ) → from ≤ j → j < i → get_or cs j 0 ≡ 48)
    → (i < from + n → get_or cs i 0 ≡ 48 → ⊥) → i ≡ past_zeros cs from n
unfolding past_zeros choose
past_first cs from zero i a b zeros other = omega arith
past_first cs from (suc n) i a b zeros other =
    ⊎_elim
    (λ (h : from < i).
    rw (eq-eqb (get_or cs from 0) 48 (zeros from (omega arith) h))
    (past_first cs (suc from) n i (omega arith) (omega arith) (λ j x y. zeros j (omega arith) y) (λ x. other (omega arith))))
    (λ (h : i ≤ from). let e : from ≡ i = omega arith in rw (e, ne_eqb (get_or cs i 0) 48 (other (omega arith))) refl)
    (split from i)

-- what a search for another character gives
abbrev pub nonzero_at : List ℕ → ℕ → Bool
nonzero_at cs i = not (eqb (get_or cs i 0) 48)

pub zeros_first : (cs : List ℕ) (from end i : ℕ) → FirstFrom (nonzero_at cs) from end i → PastZeros cs from end i
zeros_first cs from end i f =
    record {
      start = f.from;
      stop = f.within;
      zeros = zeros;
      other = other;
      is = past_first cs from (end - from) i f.from (omega (arith, f.from, f.within)) zeros (λ h. other (omega (arith, f.from, f.within)));
    }
  where
    zeros : (j : ℕ) → from ≤ j → j < i → get_or cs j 0 ≡ 48
    zeros j a b = eqb-true _ _ (not-false _ (f.none j a b))

    other : i < end → get_or cs i 0 ≡ 48 → ⊥
    other h = eqb-false _ _ (not-true _ (f.passes h))

-- ---- the range

pub record Parts (cs : List ℕ) (from : ℕ) : Type 0 where
  pub first : 0 < number_len (drop from cs)
  pub second : 0 < number_len (drop (from + number_len (drop from cs) + 2) cs)
  pub more : range_more cs from ≡ number_len (drop from cs) + number_len (drop (from + number_len (drop from cs) + 2) cs) + 3
  pub inside : from + number_len (drop from cs) + 2 + number_len (drop (from + number_len (drop from cs) + 2) cs) < length cs

first_inside : (cs : List ℕ) (i : ℕ) (p : ℕ → Bool) → first_is p (drop i cs) ≡ true → i < length cs
unfolding first_is
first_inside cs i p e =
    ⊎_elim (λ (h : i < length cs). h)
    (λ (h : length cs ≤ i). absurd (true≢false (sym e ∙ ap (first_is p) (drop_of_length-le cs {i = i} h))))
    (split i (length cs))

positive : (d : ℕ) → eqb d 0 ≡ false → 0 < d
positive d e = ⊎_elim (λ (h : 0 < d). h) (λ (h : d ≤ 0). absurd (eqb-false d 0 e (omega arith))) (split 0 d)

pub parts : (cs : List ℕ) (from : ℕ) → 0 < range_more cs from → Parts cs from
parts cs from h =
    let m : ℕ = number_len (drop from cs) in
    let n : ℕ = number_len (drop (from + m + 2) cs) in
    by_test (eqb m 0) (λ t. none (unfold range_more in choose_true _ _ _ t))
    (λ t.
    by_test (first_is (is ".") (drop (from + m) cs))
    (λ u.
    by_test (first_is (is ".") (drop (from + m + 1) cs))
    (λ v.
    by_test (eqb n 0)
    (λ x. none (unfold range_more in unfold rest_more in choose_false _ _ _ t ∙ choose_true _ _ _ u ∙ choose_true _ _ _ v ∙ choose_true _ _ _ x))
    (λ x.
    by_test (first_is (is "}") (drop (from + m + 2 + n) cs))
    (λ y. record {
      first = positive m t;
      second = positive n x;
      more = unfold range_more in unfold rest_more in choose_false _ _ _ t ∙ choose_true _ _ _ u ∙ choose_true _ _ _ v ∙ choose_false _ _ _ x ∙ choose_true _ _ _ y;
      inside = first_inside cs (from + m + 2 + n) (is "}") y;
    })
    (λ y. none (unfold range_more in unfold rest_more in choose_false _ _ _ t ∙ choose_true _ _ _ u ∙ choose_true _ _ _ v ∙ choose_false _ _ _ x ∙ choose_false _ _ _ y))))
    (λ v. none (unfold range_more in choose_false _ _ _ t ∙ choose_true _ _ _ u ∙ choose_false _ _ _ v)))
    (λ u. none (unfold range_more in choose_false _ _ _ t ∙ choose_false _ _ _ u)))
  where
    none : range_more cs from ≡ 0 → Parts cs from
    none e = absurd (omega (arith, e))

-- the two numbers are there
pub first_here : (cs : List ℕ) (p : ℕ) → 0 < range_more cs (p + 1) → (r : Option ℕ) → MatchOption r (number_len (drop (p + 1) cs) ≡ 0) (NumberAt cs (p + 1)) → IsSome r
first_here cs p h None e = absurd (omega (arith, (parts cs (p + 1) h).first))
first_here cs p h (Some m) e = refl

pub second_here : (cs : List ℕ) (p m : ℕ) → 0 < range_more cs (p + 1) → NumberAt cs (p + 1) m → (r : Option ℕ)
    → MatchOption r (number_len (drop (p + 1 + m + 2) cs) ≡ 0) (NumberAt cs (p + 1 + m + 2)) → IsSome r
second_here cs p m h c None e = absurd (let y : 0 < number_len (drop (p + 1 + m + 2) cs) = rw (c.is) (parts cs (p + 1) h).second in omega arith)
second_here cs p m h c (Some n) e = refl

pub second_inside : (cs : List ℕ) (p m : ℕ) → 0 < range_more cs (p + 1) → NumberAt cs (p + 1) m → p + 1 + m + 2 ≤ length cs
second_inside cs p m h c = omega (arith, (parts cs (p + 1) h).inside, c.is)

pub range_is : (cs : List ℕ) (p m n : ℕ) (f s : End) → 0 < range_more cs (p + 1) → NumberAt cs (p + 1) m
    → EndAt cs (take m (drop (p + 1) cs)) f × (f.digits ≤ m) × (f ≡ end_of cs (p + 1) m) → NumberAt cs (p + 1 + m + 2) n
    → EndAt cs (take n (drop (p + 1 + m + 2) cs)) s × (s.digits ≤ n) × (s ≡ end_of cs (p + 1 + m + 2) n)
    → (w : ℕ) → w ≡ max (max f.digits s.digits) 1 → RangeOf cs p (record { first = f; second = s; width = w })
range_is cs p m n f s h cm ef cn es w ww =
    let P : Parts cs (p + 1) = parts cs (p + 1) h in
    let a : m ≡ number_len (drop (p + 1) cs) = cm.is in
    let z : p + 1 + m + 2 ≡ second_at cs p = rw a in
    let b : n ≡ number_len (drop (second_at cs p) cs) = rw a at cn.is in
    let x : 0 < number_len (drop (p + 1) cs) = P.first in
    let y : 0 < number_len (drop (second_at cs p) cs) = P.second in
    let i : w ≤ m + n = omega (arith, ef.1, es.1) in
    record {
      first = rw a at ef.0;
      second = rw (z, b) at es.0;
      some = omega arith;
      wide = omega arith;
      broad = omega arith;
      room = omega (arith, P.more);
      fits = omega (arith, P.more, P.inside);
      is = whole (rw a at ef.2) (rw (z, b) at es.2);
    }
  where
    whole : f ≡ end_of cs (p + 1) (number_len (drop (p + 1) cs)) → s ≡ end_of cs (second_at cs p) (number_len (drop (second_at cs p) cs))
        → ◌≡◌ {A = Range} (record { first = f; second = s; width = w }) (range_for cs p)
    whole x y = unfold range_for in rw (ww, x, y)

-- ---- the room that a range needs

past_least : (cs : List ℕ) (i n : ℕ) → i ≤ past_zeros cs i n
unfolding past_zeros
past_least cs i zero = omega arith
past_least cs i (suc n) =
    let h : suc i ≤ past_zeros cs (suc i) n = past_least cs (suc i) n in
    choose_case (λ (x : ℕ). i ≤ x) (λ e. omega arith) (λ e. omega arith)

end_short : (cs : List ℕ) (from n : ℕ) → (end_of cs from n).digits ≤ n
unfolding end_of
end_short cs from n =
    choose_case (λ (e : End). e.digits ≤ n)
    (λ e. let h : from + 1 ≤ past_zeros cs (from + 1) (from + n - (from + 1)) = past_least cs (from + 1) (from + n - (from + 1)) in omega arith)
    (λ e. let h : from ≤ past_zeros cs from (from + n - from) = past_least cs from (from + n - from) in omega arith)

pub range_room : (cs : List ℕ) (p : ℕ) → 0 < range_more cs (p + 1) → (range_for cs p).width + 3 ≤ range_more cs (p + 1)
unfolding range_for
range_room cs p h =
    let P : Parts cs (p + 1) = parts cs (p + 1) h in
    let m : ℕ = number_len (drop (p + 1) cs) in
    let n : ℕ = number_len (drop (second_at cs p) cs) in
    let x : (end_of cs (p + 1) m).digits ≤ m = end_short cs (p + 1) m in
    let y : (end_of cs (second_at cs p) n).digits ≤ n = end_short cs (second_at cs p) n in
    let a : 0 < m = P.first in
    omega (arith, P.more)
