-- A range by the orders of a number against its two ends: what `inRange` says, said without large numbers.
use Prim.Native.Nat.{ℕ, zero, suc, ◌+◌, ◌≤◌, ◌<◌}
use mathlib.Core.Bool.{Bool, true, false, not, ◌&&◌, ◌||◌, and-false, and-true, and_assoc, and_comm, or_assoc, or_comm}
use mathlib.Core.List.{List, [], ◌∷◌}
use mathlib.Core.Logic.{⊎_elim}
use mathlib.Core.Path.{◌≡◌, refl, sym, ap, ◌∙◌}
use native.Mathlib.Nat.{zero-add, add-zero, add_comm}
use native.Mathlib.Omega.{arith}
use borrow.Author.Tests.{lt-ltb, le-leb, lt-leb, ne_eqb}
use lib.Dec.{eqb, eqb-suc-suc, ltb, leb}
use lib.ListN.{length, drop, take}
use Rattle.std.specs.declared.cmp.Ordering.{Ordering}
use Rattle.utf8.proofs.Tests.{split, by_test}
use Rattle.rules.specs.Basics.{choose, first_is}
use Rattle.rules.proofs.Choose.{choose_true, choose_false}
use Rattle.config_rules.specs.Numbers.{is_digit, digit_count, sign, number_len, is_number, value, up, down, at_most, in_range}
use Rattle.config_rules.specs.Globs.{Strings, some_then}
use Rattle.std.specs.Ordering.{nat_cmp, is_eq, is_le, is_ge}
use Rattle.ranges.specs.Slots.{all_digits, all, number, from, minus, size, in_plain, in_minus, valid, not_above, not_below, inside, near}
use Rattle.ranges.proofs.OrderLaws.{whole_at, whole_at_law, at, from_next, at_number, order_less, order_more, order_same, some_same}

-- ---- a number is digits

digits_all : (l : List ℕ) → eqb (digit_count l) (length l) ≡ all_digits l
unfolding digit_count all_digits
digits_all [] = refl
digits_all (c ∷ l) =
    by_test (is_digit c) (λ t. rw (choose_true (is_digit c) (suc (digit_count l)) 0 t, t) (eqb-suc-suc (digit_count l) (length l) ∙ digits_all l))
    (λ t. rw (choose_false (is_digit c) (suc (digit_count l)) 0 t, t) (ne_eqb 0 (suc (length l)) (λ q. absurd (omega arith))))

plain_len : (d n : ℕ) → (ltb 0 (choose (eqb d 0) 0 (0 + d)) && eqb (choose (eqb d 0) 0 (0 + d)) n) ≡ (eqb d n && ltb 0 n)
unfolding choose
plain_len zero zero = refl
plain_len zero (suc n) = rw (ne_eqb 0 (suc n) (λ q. absurd (omega arith)))
plain_len (suc d) zero = rw (ne_eqb (suc d) 0 (λ q. absurd (omega arith)), zero-add (suc d), ne_eqb (suc d) 0 (λ q. absurd (omega arith)), and-false (ltb 0 (suc d)))
plain_len (suc d) (suc n) = rw (ne_eqb (suc d) 0 (λ q. absurd (omega arith)), zero-add (suc d), lt-ltb 0 (suc d) (omega arith), lt-ltb 0 (suc n) (omega arith), and-true (eqb (suc d) (suc n)))

minus_len : (d n : ℕ) → (ltb 0 (choose (eqb d 0) 0 (1 + d)) && eqb (choose (eqb d 0) 0 (1 + d)) (suc n)) ≡ (eqb d n && ltb 0 n)
unfolding choose
minus_len zero zero = refl
minus_len zero (suc n) = rw (ne_eqb 0 (suc n) (λ q. absurd (omega arith)))
minus_len (suc d) zero = rw (ne_eqb (suc d) 0 (λ q. absurd (omega arith)), ne_eqb (1 + suc d) 1 (λ q. absurd (omega arith)), and-false (ltb 0 (1 + suc d)))
minus_len (suc d) (suc n) =
    let e : 1 + suc d ≡ suc (suc d) = omega arith in
    rw (ne_eqb (suc d) 0 (λ q. absurd (omega arith)), e, lt-ltb 0 (suc (suc d)) (omega arith), lt-ltb 0 (suc n) (omega arith), and-true (eqb (suc d) (suc n))) (eqb-suc-suc (suc d) (suc n))

-- ---- an end of the range: its sign, and the order of a number against its value

order_le : (x m : ℕ) → is_le (nat_cmp x m) ≡ leb x m
order_le x m =
    ⊎_elim (λ (h : x < m). rw (order_less x m h, le-leb x m (omega arith)))
    (λ (h : m ≤ x). ⊎_elim (λ (k : m < x). rw (order_more x m k, lt-leb x m k)) (λ (k : x ≤ m). let e : x ≡ m = omega arith in rw (e, order_same m, le-leb m m (omega arith))) (split m x))
    (split x m)

order_ge : (x m : ℕ) → is_ge (nat_cmp x m) ≡ leb m x
order_ge x m =
    ⊎_elim (λ (h : x < m). rw (order_less x m h, lt-leb m x h))
    (λ (h : m ≤ x). ⊎_elim (λ (k : m < x). rw (order_more x m k, le-leb m x h)) (λ (k : x ≤ m). let e : x ≡ m = omega arith in rw (e, order_same m, le-leb m m (omega arith))) (split m x))
    (split x m)

order_none : (x m : ℕ) → (eqb m 0 && is_eq (nat_cmp x m)) ≡ leb (x + m) 0
order_none zero zero = refl
order_none (suc x) zero = ap is_eq (order_more (suc x) 0 (omega arith)) ∙ sym (lt-leb (suc x + 0) 0 (omega arith))
order_none x (suc m) = rw (ne_eqb (suc m) 0 (λ q. absurd (omega arith))) (sym (lt-leb (x + suc m) 0 (omega arith)))

-- an end as it stands in the name: its sign and its value
module _ (m : List ℕ) (x : ℕ) where
  above_plain : leb (x + down m) (up m + 0) ≡ not_above (minus m) (eqb (size m) 0) (nat_cmp x (size m))
  unfolding not_above size sign choose
  above_plain =
      by_test (minus m) (λ t. rw t (sym (order_none x (value (drop 1 m)))))
      (λ t. rw (t, add-zero x, add-zero (value m)) (sym (order_le x (value m))))

  below_plain : leb (up m + 0) (x + down m) ≡ not_below (minus m) (nat_cmp x (size m))
  unfolding not_below size sign choose
  below_plain =
      by_test (minus m) (λ t. rw t (le-leb 0 (x + value (drop 1 m)) (omega arith)))
      (λ t. rw (t, add-zero x, add-zero (value m)) (sym (order_ge x (value m))))

  above_minus : leb (up m + x) (0 + down m) ≡ not_above (not (minus m)) (eqb (size m) 0) (nat_cmp x (size m))
  unfolding not_above size sign choose
  above_minus =
      by_test (minus m) (λ t. rw (t, zero-add x, zero-add (value (drop 1 m))) (sym (order_le x (value (drop 1 m)))))
      (λ t. rw (t, add_comm (value m) x) (sym (order_none x (value m))))

  below_minus : leb (0 + down m) (up m + x) ≡ not_below (not (minus m)) (nat_cmp x (size m))
  unfolding not_below size sign choose
  below_minus =
      by_test (minus m) (λ t. rw (t, zero-add x, zero-add (value (drop 1 m))) (sym (order_ge x (value (drop 1 m)))))
      (λ t. rw t (le-leb 0 (value m + x) (omega arith)))

swapped : (p q r s : Bool) → ((p && q) || (r && s)) ≡ ((s && r) || (q && p))
swapped p q r s = rw (and_comm s r, and_comm q p) (or_comm (p && q) (r && s))

number_plain : (l : List ℕ) → minus l ≡ false → is_number l ≡ (all_digits l && ltb 0 (length l))
unfolding is_number number_len sign
number_plain l t =
    let z : ◌≡◌ {A = ℕ} (choose (minus l) 1 0) 0 = choose_false (minus l) 1 0 t in
    rw z (plain_len (digit_count l) (length l) ∙ ap (λ (b : Bool). b && ltb 0 (length l)) (digits_all l))

number_minus : (l : List ℕ) → is_number (45 ∷ l) ≡ (all_digits l && ltb 0 (length l))
unfolding is_number number_len sign first_is choose
number_minus l = minus_len (digit_count l) (length l) ∙ ap (λ (b : Bool). b && ltb 0 (length l)) (digits_all l)

pub range_plain : (m n l : List ℕ) → minus l ≡ false → in_range m n l ≡ number (in_plain m n) l
unfolding in_range at_most number in_plain inside
range_plain m n l t =
    let a : up l ≡ value l = choose_false (minus l) 0 (value l) t in
    let b : down l ≡ 0 = choose_false (minus l) (value (drop 1 l)) 0 t in
    rw (a, b, below_plain m (value l), above_plain n (value l), below_plain n (value l), above_plain m (value l), number_plain l t)
    (and_assoc (all_digits l) (ltb 0 (length l)) _)

pub range_minus : (m n l : List ℕ) → in_range m n (45 ∷ l) ≡ number (in_minus m n) l
unfolding in_range at_most number in_minus inside first_is choose
range_minus m n l =
    rw (
      above_minus m (value l),
      below_minus n (value l),
      above_minus n (value l),
      below_minus m (value l),
      number_minus l,
      swapped (not_above (not (minus m)) (eqb (size m) 0) (nat_cmp (value l) (size m))) (not_below (not (minus n)) (nat_cmp (value l) (size n)))
          (not_above (not (minus n)) (eqb (size n) 0) (nat_cmp (value l) (size n))) (not_below (not (minus m)) (nat_cmp (value l) (size m))),
    )
    (and_assoc (all_digits l) (ltb 0 (length l)) _)

-- what a range says of a string: behind a minus, the numbers of what follows; else its own
range_none : (m n : List ℕ) → in_range m n [] ≡ false
unfolding in_range is_number number_len sign first_is choose digit_count
range_none m n = refl

number_none : (f : ℕ → Bool) → number f [] ≡ false
unfolding number all_digits
number_none f = refl

pub range_after_minus : (m n : List ℕ) (k : Strings) (s : List ℕ) → some_then (in_range m n) k (45 ∷ s) ≡ some_then (number (in_minus m n)) k s
unfolding some_then
range_after_minus m n k s =
    rw (range_none m n) (some_same (λ (l : List ℕ). in_range m n (45 ∷ l)) (number (in_minus m n)) k s (λ l. range_minus m n l))

minus_first : (c : ℕ) (l : List ℕ) → (c ≡ 45 → ⊥) → minus (c ∷ l) ≡ false
unfolding first_is
minus_first c l h = ne_eqb c 45 h

pub range_else : (m n : List ℕ) (k : Strings) (c : ℕ) (s : List ℕ) → (c ≡ 45 → ⊥)
    → some_then (in_range m n) k (c ∷ s) ≡ some_then (number (in_plain m n)) k (c ∷ s)
unfolding some_then
range_else m n k c s h =
    rw (range_none m n, number_none (in_plain m n))
    (some_same (λ (l : List ℕ). in_range m n (c ∷ l)) (λ (l : List ℕ). number (in_plain m n) (c ∷ l)) k s (λ l. range_plain m n (c ∷ l) (minus_first c l h)))

-- ---- the numbers of 1 to w characters, each by what is kept of it, and the longer ones

pub some_number : (f : ℕ → Bool) (k : Strings) (w : ℕ) (s : List ℕ) → some_then (number f) k s ≡ (near f k w s || from (number f) k (suc w) s)
unfolding near
some_number f k zero s =
    first ∙ from_next (number f) k 0 s ∙ rw (none)
  where
    first : some_then (number f) k s ≡ from (number f) k 0 s
    first = unfold from in refl

    none : at (number f) k 0 s ≡ false
    none = unfold at in rw (number_none f)
some_number f k (suc w) s =
    some_number f k w s
    ∙ ap (λ (b : Bool). near f k w s || b) (from_next (number f) k (suc w) s ∙ rw (at_number f k w s))
    ∙ sym (or_assoc (near f k w s) (valid k (suc w) s && f (value (take (suc w) s))) (from (number f) k (suc (suc w)) s))

-- a number above both ends is in no range
pub inside_large : (a x b y : Bool) → inside a x Ordering.Greater b y Ordering.Greater ≡ false
unfolding inside not_below not_above choose
inside_large a x b y = by_test a (λ t. by_test b (λ u. rw (t, u, and-false x, and-false y)) (λ u. rw (t, u, and-false x))) (λ t. by_test b (λ u. rw (t, u, and-false y)) (λ u. rw (t, u)))

pub large_plain : (m n : List ℕ) (x : ℕ) → size m < x → size n < x → in_plain m n x ≡ false
unfolding in_plain
large_plain m n x h k = rw (order_more x (size m) h, order_more x (size n) k) (inside_large (minus m) (eqb (size m) 0) (minus n) (eqb (size n) 0))

pub large_minus : (m n : List ℕ) (x : ℕ) → size m < x → size n < x → in_minus m n x ≡ false
unfolding in_minus
large_minus m n x h k = rw (order_more x (size m) h, order_more x (size n) k) (inside_large (not (minus m)) (eqb (size m) 0) (not (minus n)) (eqb (size n) 0))

-- what is kept decides: r and t hold the digits of the two ends, the lowest first
module _ (m n r t : List ℕ) (k : Strings) (hr : all_digits r ≡ true) (ht : all_digits t ≡ true) (er : all r ≡ size m) (et : all t ≡ size n) where
  pub kept_plain : (j : ℕ) (s : List ℕ)
      → (valid k j s && in_plain m n (value (take j s)))
      ≡ (valid k j s && inside (minus m) (eqb (size m) 0) (whole_at r j s) (minus n) (eqb (size n) 0) (whole_at t j s))
  unfolding in_plain
  kept_plain j s =
      by_test (valid k j s)
      (λ v. rw (v, whole_at_law k r hr j s v, whole_at_law k t ht j s v, er, et))
      (λ v. rw v)

  pub kept_minus : (j : ℕ) (s : List ℕ)
      → (valid k j s && in_minus m n (value (take j s)))
      ≡ (valid k j s && inside (not (minus m)) (eqb (size m) 0) (whole_at r j s) (not (minus n)) (eqb (size n) 0) (whole_at t j s))
  unfolding in_minus
  kept_minus j s =
      by_test (valid k j s)
      (λ v. rw (v, whole_at_law k r hr j s v, whole_at_law k t ht j s v, er, et))
      (λ v. rw v)
