-- Ranges without large numbers: a number of the path is compared with an end of the range digit by digit, from the
-- lowest on. Reading the path from its end, each digit is put before the ones read: the new digit decides, and where it
-- equals the end's digit of that place the order so far stays.
use Prim.Native.Nat.{ℕ, zero, suc, ◌+◌, ◌-◌, ◌*◌, ◌≤◌, ◌<◌}
use mathlib.Core.Bool.{Bool, true, false, ◌&&◌, ◌||◌, and-false, and-true, and_assoc, or-false, true≢false}
use mathlib.Core.List.{List, [], ◌∷◌, foldl}
use mathlib.Core.Logic.{⊎_elim}
use mathlib.Core.Path.{◌≡◌, refl, sym, ap, ◌∙◌}
use native.Mathlib.Omega.{arith}
use borrow.Author.Tests.{lt-ltb, le-ltb}
use lib.Dec.{ltb}
use lib.ListN.{length, drop, take, get_or}
use Rattle.utf8.proofs.Tests.{split, in_range_law, and_left, and_right}
use Rattle.rules.specs.Basics.{choose}
use Rattle.config_rules.specs.Numbers.{is_digit, value}
use Rattle.config_rules.specs.Globs.{Strings, some_then, never}
use Rattle.ranges.specs.Slots.{digit, order_then, valid, order_at, all_digits, all, number, from}
use Rattle.std.specs.Ordering.{nat_cmp, ordering_then}
use Rattle.std.specs.Cmp.{nat_cmp_is}
use Rattle.std.specs.declared.cmp.Ordering.{Ordering}

-- ---- x times the j-th power of ten

unfoldable pub scale : ℕ → ℕ → ℕ
scale zero x = x
scale (suc j) x = 10 * scale j x

scale_add : (j x y : ℕ) → scale j (x + y) ≡ scale j x + scale j y
unfolding scale
scale_add zero x y = refl
scale_add (suc j) x y = omega (arith, scale_add j x y)

scale_ten : (j x : ℕ) → scale j (x * 10) ≡ 10 * scale j x
unfolding scale
scale_ten zero x = omega arith
scale_ten (suc j) x = omega (arith, scale_ten j x)

pub scale_zero : (j : ℕ) → scale j 0 ≡ 0
unfolding scale
scale_zero zero = refl
scale_zero (suc j) = omega (arith, scale_zero j)

scale_le : (j x y : ℕ) → x ≤ y → scale j x ≤ scale j y
unfolding scale
scale_le zero x y h = h
scale_le (suc j) x y h = omega (arith, scale_le j x y h)

scale_one : (j : ℕ) → 1 ≤ scale j 1
unfolding scale
scale_one zero = omega arith
scale_one (suc j) = omega (arith, scale_one j)

-- ---- the value of a text of digits

value_from : (a : ℕ) (l : List ℕ) → foldl (λ (n : ℕ) (c : ℕ). n * 10 + (c - 48)) a l ≡ scale (length l) a + value l
unfolding value scale
value_from a [] = omega arith
value_from a (c ∷ l) =
    let u : foldl (λ (n : ℕ) (c : ℕ). n * 10 + (c - 48)) (a * 10 + (c - 48)) l ≡ scale (length l) (a * 10 + (c - 48)) + value l = value_from (a * 10 + (c - 48)) l in
    let v : foldl (λ (n : ℕ) (c : ℕ). n * 10 + (c - 48)) (0 * 10 + (c - 48)) l ≡ scale (length l) (0 * 10 + (c - 48)) + value l = value_from (0 * 10 + (c - 48)) l in
    omega (arith, u, v, scale_add (length l) (a * 10) (c - 48), scale_add (length l) (0 * 10) (c - 48), scale_ten (length l) a, scale_ten (length l) 0, scale_zero (length l))

pub value_cons : (c : ℕ) (l : List ℕ) → value (c ∷ l) ≡ scale (length l) (digit c) + value l
unfolding value digit
value_cons c l = omega (arith, value_from (0 * 10 + (c - 48)) l, scale_add (length l) (0 * 10) (c - 48), scale_ten (length l) 0, scale_zero (length l))

digit_small : (c : ℕ) → is_digit c ≡ true → digit c ≤ 9
unfolding digit
digit_small c e = let r : (48 ≤ c) × (c ≤ 57) = in_range_law 48 57 c e in omega arith

scale_nine : (j : ℕ) → scale j 9 ≡ 9 * scale j 1
unfolding scale
scale_nine zero = refl
scale_nine (suc j) = omega (arith, scale_nine j)

pub value_small : (l : List ℕ) → all_digits l ≡ true → value l < scale (length l) 1
unfolding all_digits value scale
value_small [] e = omega arith
value_small (c ∷ l) e =
    let r : value l < scale (length l) 1 = value_small l (and_right (is_digit c) (all_digits l) e) in
    let s : digit c ≤ 9 = digit_small c (and_left (is_digit c) (all_digits l) e) in
    let v : value (c ∷ l) ≡ scale (length l) (digit c) + value l = value_cons c l in
    omega (arith, v, scale_le (length l) (digit c) 9 s, scale_nine (length l))

pub scale_more : (i n : ℕ) → i ≤ n → scale i 1 ≤ scale n 1
unfolding scale
scale_more zero n q = scale_one n
scale_more (suc i) zero q = absurd (omega arith)
scale_more (suc i) (suc n) q = omega (arith, scale_more i n (omega arith))

-- ---- the end's digits, the lowest first: the value of the lowest j of them

unfoldable pub low : List ℕ → ℕ → ℕ
low [] j = 0
low (c ∷ r) zero = 0
low (c ∷ r) (suc j) = digit c + 10 * low r j

low_none : (r : List ℕ) → low r 0 ≡ 0
unfolding low
low_none [] = refl
low_none (c ∷ r) = refl

pub low_top : (r : List ℕ) (j : ℕ) → low r (suc j) ≡ scale j (digit (get_or r j 48)) + low r j
unfolding low scale digit
low_top [] j = let z : scale j (48 - 48) ≡ 0 = scale_zero j in omega arith
low_top (c ∷ r) zero = omega (arith, low_none r)
low_top (c ∷ r) (suc j) = omega (arith, low_top r j)

pub low_split : (r : List ℕ) (j : ℕ) → all r ≡ low r j + scale j (all (drop j r))
unfolding low all scale
low_split [] zero = refl
low_split [] (suc j) = omega (arith, scale_zero j)
low_split (c ∷ r) zero = omega arith
low_split (c ∷ r) (suc j) = omega (arith, low_split r j)

pub low_small : (r : List ℕ) (j : ℕ) → all_digits r ≡ true → low r j < scale j 1
unfolding low scale all_digits
low_small [] j e = omega (arith, scale_one j)
low_small (c ∷ r) zero e = omega arith
low_small (c ∷ r) (suc j) e = omega (arith, low_small r j (and_right (is_digit c) (all_digits r) e), digit_small c (and_left (is_digit c) (all_digits r) e))

-- ---- the order of two numbers, and after one more digit on each

pub order_less : (x y : ℕ) → x < y → nat_cmp x y ≡ Ordering.Less
order_less x y h = sym (nat_cmp_is x y Ordering.Less h)

pub order_more : (x y : ℕ) → y < x → nat_cmp x y ≡ Ordering.Greater
order_more x y h = sym (nat_cmp_is x y Ordering.Greater h)

pub order_same : (x : ℕ) → nat_cmp x x ≡ Ordering.Equal
order_same x = sym (nat_cmp_is x x Ordering.Equal refl)

order_shift : (a x y : ℕ) → nat_cmp (a + x) (a + y) ≡ nat_cmp x y
order_shift a x y =
    ⊎_elim (λ (h : x < y). order_less (a + x) (a + y) (omega arith) ∙ sym (order_less x y h))
    (λ (h : y ≤ x).
    ⊎_elim (λ (k : y < x). order_more (a + x) (a + y) (omega arith) ∙ sym (order_more x y k))
    (λ (k : x ≤ y). let e : x ≡ y = omega arith in rw e (order_same (a + y) ∙ sym (order_same y))) (split y x))
    (split x y)

above : (j d e x y : ℕ) → d < e → x < scale j 1 → scale j d + x < scale j e + y
above j d e x y h k = omega (arith, scale_le j (d + 1) e (omega arith), scale_add j d 1)

pub order_step : (j d e x y : ℕ) → x < scale j 1 → y < scale j 1 → nat_cmp (scale j d + x) (scale j e + y) ≡ order_then d e (nat_cmp x y)
unfolding order_then
order_step j d e x y h k =
    ⊎_elim (λ (t : d < e). order_less _ _ (above j d e x y t h) ∙ ap (λ (o : Ordering). ordering_then o (nat_cmp x y)) (sym (order_less d e t)))
    (λ (t : e ≤ d).
    ⊎_elim (λ (u : e < d). order_more _ _ (above j e d y x u k) ∙ ap (λ (o : Ordering). ordering_then o (nat_cmp x y)) (sym (order_more d e u)))
    (λ (u : d ≤ e).
    let q : d ≡ e = omega arith in
    rw q (order_shift (scale j e) x y ∙ ap (λ (o : Ordering). ordering_then o (nat_cmp x y)) (sym (order_same e)))) (split e d))
    (split d e)

-- ---- what is kept for the number that ends j characters on: whether it is one, and its order against an end's lowest
-- j digits

valid_length : (k : Strings) (j : ℕ) (s : List ℕ) → valid k j s ≡ true → length (take j s) ≡ j
unfolding valid
valid_length k zero s e = refl
valid_length k (suc j) [] e = absurd (true≢false (sym e))
valid_length k (suc j) (c ∷ s) e = ap suc (valid_length k j s (and_right (is_digit c) (valid k j s) e))

valid_digits : (k : Strings) (j : ℕ) (s : List ℕ) → valid k j s ≡ true → all_digits (take j s) ≡ true
unfolding valid all_digits
valid_digits k zero s e = refl
valid_digits k (suc j) [] e = absurd (true≢false (sym e))
valid_digits k (suc j) (c ∷ s) e = rw (and_left (is_digit c) (valid k j s) e) (valid_digits k j s (and_right (is_digit c) (valid k j s) e))

pub order_at_law : (k : Strings) (r : List ℕ) → all_digits r ≡ true → (j : ℕ) (s : List ℕ) → valid k j s ≡ true → order_at r j s ≡ nat_cmp (value (take j s)) (low r j)
unfolding order_at valid
order_at_law k r a zero s e = rw (low_none r) (unfold value in sym (order_same 0))
order_at_law k r a (suc j) [] e = absurd (true≢false (sym e))
order_at_law k r a (suc j) (c ∷ s) e =
    let v : valid k j s ≡ true = and_right (is_digit c) (valid k j s) e in
    let n : length (take j s) ≡ j = valid_length k j s v in
    let x : value (take j s) < scale j 1 = rw n at (value_small (take j s) (valid_digits k j s v)) in
    let y : value (c ∷ take j s) ≡ scale j (digit c) + value (take j s) = rw n at (value_cons c (take j s)) in
    rw (order_at_law k r a j s v, y, low_top r j) (sym (order_step j (digit c) (digit (get_or r j 48)) (value (take j s)) (low r j) x (low_small r j a)))

-- against the whole end: less, where a higher digit of the end is not 0
unfoldable pub whole_at : List ℕ → ℕ → List ℕ → Ordering
whole_at r j s = choose (ltb 0 (all (drop j r))) Ordering.Less (order_at r j s)

pub whole_at_law : (k : Strings) (r : List ℕ) → all_digits r ≡ true → (j : ℕ) (s : List ℕ) → valid k j s ≡ true → whole_at r j s ≡ nat_cmp (value (take j s)) (all r)
unfolding whole_at choose
whole_at_law k r a j s v =
    let n : length (take j s) ≡ j = valid_length k j s v in
    let x : value (take j s) < scale j 1 = rw n at (value_small (take j s) (valid_digits k j s v)) in
    ⊎_elim
    (λ (h : 0 < all (drop j r)).
    rw (lt-ltb 0 (all (drop j r)) h) (sym (order_less (value (take j s)) (all r) (omega (arith, low_split r j, scale_le j 1 (all (drop j r)) (omega arith))))))
    (λ (h : all (drop j r) ≤ 0).
    let z : all (drop j r) ≡ 0 = omega arith in
    let l : all r ≡ low r j = omega (arith, low_split r j, scale_zero j, ap (scale j) z) in
    rw (le-ltb 0 (all (drop j r)) h, l) (order_at_law k r a j s v))
    (split 0 (all (drop j r)))

-- ---- a beginning that passes: the one of j characters, and those of j or more

unfoldable pub at : Strings → Strings → ℕ → List ℕ → Bool
at p k zero s = p [] && k s
at p k (suc j) [] = false
at p k (suc j) (c ∷ s) = at (λ (l : List ℕ). p (c ∷ l)) k j s

pub from_next : (p k : Strings) (j : ℕ) (s : List ℕ) → from p k j s ≡ (at p k j s || from p k (suc j) s)
unfolding from at some_then
from_next p k zero [] = sym (or-false (p [] && k []))
from_next p k zero (c ∷ s) = refl
from_next p k (suc j) [] = refl
from_next p k (suc j) (c ∷ s) = from_next (λ (l : List ℕ). p (c ∷ l)) k j s

pub some_same : (p q k : Strings) (s : List ℕ) → ((l : List ℕ) → p l ≡ q l) → some_then p k s ≡ some_then q k s
unfolding some_then
some_same p q k [] e = rw (e [])
some_same p q k (c ∷ s) e = rw (e [], some_same (λ (l : List ℕ). p (c ∷ l)) (λ (l : List ℕ). q (c ∷ l)) k s (λ l. e (c ∷ l)))

pub from_same : (p q k : Strings) (j : ℕ) (s : List ℕ) → ((l : List ℕ) → j ≤ length l → p l ≡ q l) → from p k j s ≡ from q k j s
unfolding from
from_same p q k zero s e = some_same p q k s (λ l. e l (omega arith))
from_same p q k (suc j) [] e = refl
from_same p q k (suc j) (c ∷ s) e = from_same (λ (l : List ℕ). p (c ∷ l)) (λ (l : List ℕ). q (c ∷ l)) k j s (λ l h. e (c ∷ l) (omega arith))

some_never : (k : Strings) (s : List ℕ) → some_then never k s ≡ false
unfolding some_then
some_never k [] = refl
some_never k (c ∷ s) = some_never k s

from_never : (k : Strings) (j : ℕ) (s : List ℕ) → from never k j s ≡ false
unfolding from
from_never k zero s = some_never k s
from_never k (suc j) [] = refl
from_never k (suc j) (c ∷ s) = from_never k j s

-- ---- numbers whose value passes f

unfoldable fits : ℕ → List ℕ → Bool
fits zero s = true
fits (suc j) [] = false
fits (suc j) (c ∷ s) = fits j s

at_is : (p k : Strings) (j : ℕ) (s : List ℕ) → at p k j s ≡ (fits j s && (p (take j s) && k (drop j s)))
unfolding at fits
at_is p k zero s = refl
at_is p k (suc j) [] = refl
at_is p k (suc j) (c ∷ s) = at_is (λ (l : List ℕ). p (c ∷ l)) k j s

and_swap : (a b c : Bool) → (a && (b && c)) ≡ (b && (a && c))
and_swap true true c = refl
and_swap true false c = refl
and_swap false true c = refl
and_swap false false c = refl

valid_is : (k : Strings) (j : ℕ) (s : List ℕ) → valid k j s ≡ (fits j s && (all_digits (take j s) && k (drop j s)))
unfolding valid fits all_digits
valid_is k zero s = refl
valid_is k (suc j) [] = refl
valid_is k (suc j) (c ∷ s) =
    rw (valid_is k j s)
    (and_swap (is_digit c) (fits j s) (all_digits (take j s) && k (drop j s))
    ∙ ap (λ (b : Bool). fits j s && b) (sym (and_assoc (is_digit c) (all_digits (take j s)) (k (drop j s)))))

fits_some : (j : ℕ) (s : List ℕ) → (fits (suc j) s && ltb 0 (length (take (suc j) s))) ≡ fits (suc j) s
unfolding fits
fits_some j [] = refl
fits_some j (c ∷ s) = rw (lt-ltb 0 (suc (length (take j s))) (omega arith)) (and-true (fits j s))

shuffle : (f d t v k : Bool) → (f && t) ≡ f → (f && ((d && (t && v)) && k)) ≡ ((f && (d && k)) && v)
shuffle false d t v k e = refl
shuffle true false t v k e = refl
shuffle true true t v false e = rw (e, and-false v)
shuffle true true t v true e = rw (e, and-true v)

pub at_number : (f : ℕ → Bool) (k : Strings) (j : ℕ) (s : List ℕ) → at (number f) k (suc j) s ≡ (valid k (suc j) s && f (value (take (suc j) s)))
unfolding number
at_number f k j s =
    at_is (number f) k (suc j) s
    ∙ shuffle (fits (suc j) s) (all_digits (take (suc j) s)) (ltb 0 (length (take (suc j) s))) (f (value (take (suc j) s))) (k (drop (suc j) s)) (fits_some j s)
    ∙ ap (λ (b : Bool). b && f (value (take (suc j) s))) (sym (valid_is k (suc j) s))

-- longer numbers than the ends have digits: a 0 before them changes nothing; any other digit makes them too large

pub far_zero : (f : ℕ → Bool) (k : Strings) (j : ℕ) (s : List ℕ) → from (number f) k (suc (suc j)) (48 ∷ s) ≡ from (number f) k (suc j) s
unfolding from
far_zero f k j s = from_same (λ (l : List ℕ). number f (48 ∷ l)) (number f) k (suc j) s (λ l h. same l h)
  where
    same : (l : List ℕ) → suc j ≤ length l → number f (48 ∷ l) ≡ number f l
    same l h =
        unfold number in unfold all_digits in
        let z : value (48 ∷ l) ≡ value l = unfold digit in omega (arith, value_cons 48 l, scale_zero (length l)) in
        rw (lt-ltb 0 (suc (length l)) (omega arith), lt-ltb 0 (length l) (omega arith), z)

pub far_large : (f : ℕ → Bool) (k : Strings) (j c : ℕ) (s : List ℕ) → ((x : ℕ) → scale j 1 ≤ x → f x ≡ false) → 48 < c
    → from (number f) k (suc j) (c ∷ s) ≡ false
unfolding from
far_large f k j c s e h = from_same (λ (l : List ℕ). number f (c ∷ l)) never k j s (λ l n. large l n) ∙ from_never k j s
  where
    large : (l : List ℕ) → j ≤ length l → number f (c ∷ l) ≡ false
    large l n =
        unfold number in
        let d : scale (length l) 1 ≤ scale (length l) (digit c) = scale_le (length l) 1 (digit c) (unfold digit in omega arith) in
        let v : f (value (c ∷ l)) ≡ false = e (value (c ∷ l)) (omega (arith, value_cons c l, scale_more j (length l) n)) in
        rw (v, and-false (ltb 0 (length (c ∷ l))), and-false (all_digits (c ∷ l)))

pub far_other : (f : ℕ → Bool) (k : Strings) (j c : ℕ) (s : List ℕ) → is_digit c ≡ false → from (number f) k (suc j) (c ∷ s) ≡ false
unfolding from
far_other f k j c s e = from_same (λ (l : List ℕ). number f (c ∷ l)) never k j s (λ l n. other l) ∙ from_never k j s
  where
    other : (l : List ℕ) → number f (c ∷ l) ≡ false
    other l = unfold number in unfold all_digits in rw e
