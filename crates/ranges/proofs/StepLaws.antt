-- A range, one character more: all that its value at c ∷ s needs of s.
use Prim.Native.Nat.{ℕ, zero, suc, ◌+◌, ◌-◌, ◌≤◌, ◌<◌}
use mathlib.Core.Bool.{Bool, true, false, ◌&&◌, ◌||◌, and-false}
use mathlib.Core.List.{List, [], ◌∷◌}
use mathlib.Core.Logic.{⊎_elim}
use mathlib.Core.Path.{◌≡◌, refl, sym, ap, ◌∙◌}
use native.Mathlib.Omega.{arith}
use borrow.Author.Tests.{eq-eqb, ne_eqb, eqb-true, eqb-false, lt-leb, ltb-true, ltb-false}
use lib.Dec.{eqb, ltb}
use lib.ListN.{length, drop, take, get_or, set, replicate}
use lib.Seq.{drop-length, get_or-set_same, get_or-set_other}
use Rattle.utf8.proofs.Tests.{split, by_test, in_range_law, and_left, and_right}
use Rattle.std.specs.Prelude.{Option, None}
use Rattle.std.specs.Ordering.{nat_cmp, ordering_then}
use Rattle.std.specs.declared.cmp.Ordering.{Ordering}
use Rattle.rules.specs.Basics.{choose}
use Rattle.config_rules.specs.Numbers.{is_digit, value, in_range}
use Rattle.config_rules.specs.Globs.{Strings, some_then}
use Rattle.glob_name.specs.Read.{range_more}
use Rattle.ranges.specs.Slots.{digit, order_then, valid, order_at, inside_of, near, all_digits, all, number, from, farther, size, in_plain, in_minus}
use Rattle.ranges.specs.Ranges.{lows_of, EndAt, RangeOf, first_end, second_end, slot_step, slot_in, any_slot, opposite, slot_at, first_slot, no_far, FarNext, Moved, Kept, Apart, RangeNext}
use Rattle.ranges.specs.declared.End.{End}
use Rattle.ranges.specs.declared.Range.{Range}
use Rattle.ranges.specs.declared.Orders.{Orders}
use Rattle.ranges.specs.declared.Far.{Far}
use Rattle.ranges.specs.declared.State.{State}
use Rattle.ranges.proofs.OrderLaws.{scale, scale_zero, low_split, low_small, from_next, at_number, far_zero, far_large, far_other, whole_at, scale_more, order_less, order_more, order_same}
use Rattle.ranges.proofs.InRange.{kept_plain, kept_minus, some_number, range_else, range_after_minus, large_plain, large_minus}
use Rattle.ranges.proofs.SlotLaws.{length_lows}

-- ---- slots

least_digit : (r : List ℕ) (j : ℕ) → all_digits r ≡ true → 48 ≤ get_or r j 48
unfolding all_digits
least_digit [] j e = omega arith
least_digit (c ∷ r) zero e = let t : (48 ≤ c) × (c ≤ 57) = in_range_law 48 57 c (and_left (is_digit c) (all_digits r) e) in omega arith
least_digit (c ∷ r) (suc j) e = least_digit r j (and_right (is_digit c) (all_digits r) e)

then_digits : (c d : ℕ) (o : Ordering) → 48 ≤ c → 48 ≤ d → order_then c d o ≡ order_then (digit c) (digit d) o
unfolding order_then digit
then_digits c d o h k = ap (λ (x : Ordering). ordering_then x o) same
  where
    same : nat_cmp c d ≡ nat_cmp (c - 48) (d - 48)
    same =
        ⊎_elim (λ (t : c < d). order_less c d t ∙ sym (order_less (c - 48) (d - 48) (omega arith)))
        (λ (t : d ≤ c).
        ⊎_elim (λ (u : d < c). order_more c d u ∙ sym (order_more (c - 48) (d - 48) (omega arith)))
        (λ (u : c ≤ d). let e : c ≡ d = omega arith in rw e (order_same d ∙ sym (order_same (d - 48)))) (split d c))
        (split c d)

slot_next : (r t : List ℕ) (k : Strings) (j c : ℕ) (s : List ℕ) → all_digits r ≡ true → all_digits t ≡ true
    → slot_step (slot_at r t k j s) c (get_or r j 48) (get_or t j 48) ≡ slot_at r t k (suc j) (c ∷ s)
unfolding slot_step slot_at valid order_at choose
slot_next r t k j c s hr ht =
    by_test (valid k j s)
    (λ v.
    by_test (is_digit c)
    (λ d.
    let b : (48 ≤ c) × (c ≤ 57) = in_range_law 48 57 c d in
    rw (
      v,
      d,
      then_digits c (get_or r j 48) (order_at r j s) b.0 (least_digit r j hr),
      then_digits c (get_or t j 48) (order_at t j s) b.0 (least_digit t j ht),
    ))
    (λ d. rw (v, d)))
    (λ v. rw (v, and-false (is_digit c)))

-- what a slot says: the number is one, and inside by its orders
slot_says : (r : Range) (a b : List ℕ) (k : Strings) (j : ℕ) (s : List ℕ)
    → ltb 0 (all (drop j a)) ≡ ltb j r.first.digits → ltb 0 (all (drop j b)) ≡ ltb j r.second.digits
    → slot_in r j (slot_at a b k j s)
    ≡ (valid k j s && inside_of r.first.minus (eqb r.first.digits 0) r.second.minus (eqb r.second.digits 0) (whole_at a j s) (whole_at b j s))
unfolding slot_in slot_at choose whole_at
slot_says r a b k j s e f = by_test (valid k j s) (λ v. rw (v, e, f)) (λ v. rw v)

-- ---- the longer numbers: only a 0 keeps them, and the longest slot joins them

pub far_next : (f : ℕ → Bool) (k : Strings) (w c : ℕ) (s : List ℕ) → ((x : ℕ) → scale (suc w) 1 ≤ x → f x ≡ false)
    → from (number f) k (suc (suc w)) (c ∷ s) ≡ (eqb c 48 && ((valid k (suc w) s && f (value (take (suc w) s))) || from (number f) k (suc (suc w)) s))
far_next f k w c s e =
    by_test (eqb c 48)
    (λ t. let z : c ≡ 48 = eqb-true c 48 t in rw (t, z) (far_zero f k w s ∙ from_next (number f) k (suc w) s ∙ rw (at_number f k w s)))
    (λ t. rw t
    (⊎_elim (λ (h : 48 < c). far_large f k (suc w) c s e h)
    (λ (h : c ≤ 48).
    let n : c < 48 = less c h (eqb-false c 48 t) in
    far_other f k (suc w) c s (rw (lt-leb 48 c n)))
    (split 48 c)))
  where
    less : (c : ℕ) → c ≤ 48 → (c ≡ 48 → ⊥) → c < 48
    less c h n = ⊎_elim (λ (u : c < 48). u) (λ (u : 48 ≤ c). absurd (n (omega arith))) (split c 48)

far_more : (f : ℕ → Bool) (k : Strings) (w c : ℕ) (s : List ℕ) → 0 < w → ((x : ℕ) → scale w 1 ≤ x → f x ≡ false)
    → farther f k w (c ∷ s) ≡ (eqb c 48 && ((valid k w s && f (value (take w s))) || farther f k w s))
far_more f k zero c s h e = absurd (omega arith)
far_more f k (suc w) c s h e = far_next f k w c s e

hit_plain : (m n : List ℕ) (k : Strings) (w c : ℕ) (s : List ℕ) → (c ≡ 45 → ⊥)
    → some_then (in_range m n) k (c ∷ s) ≡ (near (in_plain m n) k w (c ∷ s) || from (number (in_plain m n)) k (suc w) (c ∷ s))
hit_plain m n k w c s h = range_else m n k c s h ∙ some_number (in_plain m n) k w (c ∷ s)

hit_minus : (m n : List ℕ) (k : Strings) (w : ℕ) (s : List ℕ)
    → some_then (in_range m n) k (45 ∷ s) ≡ (near (in_minus m n) k w s || from (number (in_minus m n)) k (suc w) s)
hit_minus m n k w s = range_after_minus m n k s ∙ some_number (in_minus m n) k w s

all_small : (r : List ℕ) (w : ℕ) → length r ≤ w → all_digits r ≡ true → all r < scale w 1
unfolding all
all_small r w h e =
    let z : all (drop (length r) r) ≡ 0 = ap all (drop-length r) in
    omega (arith, low_split r (length r), low_small r (length r) e, scale_zero (length r), ap (scale (length r)) z, scale_more (length r) w h)

none_is : (cs m : List ℕ) (e : End) → EndAt cs m e → eqb e.digits 0 ≡ eqb (size m) 0
unfolding all
none_is cs m e w =
    let l : ltb 0 (all (lows_of cs e)) ≡ ltb 0 e.digits = w.led 0 in
    let v : all (lows_of cs e) ≡ size m = w.value in
    by_test (ltb 0 e.digits)
    (λ t.
    let a : 0 < e.digits = ltb-true 0 e.digits t in
    let b : 0 < all (lows_of cs e) = ltb-true 0 (all (lows_of cs e)) (l ∙ t) in
    ne_eqb e.digits 0 (λ q. absurd (omega arith)) ∙ sym (ne_eqb (size m) 0 (λ q. absurd (omega arith))))
    (λ t.
    let a : e.digits ≤ 0 = ltb-false 0 e.digits t in
    let b : all (lows_of cs e) ≤ 0 = ltb-false 0 (all (lows_of cs e)) (l ∙ t) in
    eq-eqb e.digits 0 (omega arith) ∙ sym (eq-eqb (size m) 0 (omega arith)))

-- ---- all of it

module _ (cs : List ℕ) (p : ℕ) (r : Range) (R : RangeOf cs p r) (k : Strings) where
  abbrev m : List ℕ
  m = first_end cs p

  abbrev n : List ℕ
  n = second_end cs p

  abbrev a : List ℕ
  a = lows_of cs r.first

  abbrev b : List ℕ
  b = lows_of cs r.second

  plain_slot : (j : ℕ) (s : List ℕ) → slot_in r j (slot_at a b k j s) ≡ (valid k j s && in_plain m n (value (take j s)))
  plain_slot j s =
      slot_says r a b k j s (R.first.led j) (R.second.led j)
      ∙ rw (R.first.sign, R.second.sign, none_is cs m r.first R.first, none_is cs n r.second R.second)
      (sym (kept_plain m n a b k R.first.digits R.second.digits R.first.value R.second.value j s))

  minus_slot : (j : ℕ) (s : List ℕ) → slot_in (opposite r) j (slot_at a b k j s) ≡ (valid k j s && in_minus m n (value (take j s)))
  minus_slot j s =
      slot_says (opposite r) a b k j s (R.first.led j) (R.second.led j)
      ∙ rw (R.first.sign, R.second.sign, none_is cs m r.first R.first, none_is cs n r.second R.second)
      (sym (kept_minus m n a b k R.first.digits R.second.digits R.first.value R.second.value j s))

  near_plain : (s : List ℕ) (l : List (Option Orders)) (j : ℕ) → ((i : ℕ) → 0 < i → i ≤ j → get_or l (p + i) None ≡ slot_at a b k i s) → any_slot r l p j ≡ near (in_plain m n) k j s
  unfolding any_slot near
  near_plain s l zero h = refl
  near_plain s l (suc j) h = rw (near_plain s l j (λ i x y. h i x (omega arith)), h (suc j) (omega arith) (omega arith), plain_slot (suc j) s)

  near_minus : (s : List ℕ) (l : List (Option Orders)) (j : ℕ) → ((i : ℕ) → 0 < i → i ≤ j → get_or l (p + i) None ≡ slot_at a b k i s)
      → any_slot (opposite r) l p j ≡ near (in_minus m n) k j s
  unfolding any_slot near
  near_minus s l zero h = refl
  near_minus s l (suc j) h = rw (near_minus s l j (λ i x y. h i x (omega arith)), h (suc j) (omega arith) (omega arith), minus_slot (suc j) s)

  ends_low : (e : ℕ) → scale r.width 1 ≤ e → (size m < e) × (size n < e)
  ends_low e i =
      let x : r.first.digits ≤ r.width = R.wide in
      let y : r.second.digits ≤ r.width = R.broad in (
        omega (arith, all_small a r.width (rw (length_lows cs r.first.end r.first.digits) x) R.first.digits, R.first.value),
        omega (arith, all_small b r.width (rw (length_lows cs r.second.end r.second.digits) y) R.second.digits, R.second.value),
      )

  far_plain : (c : ℕ) (s : List ℕ)
      → farther (in_plain m n) k r.width (c ∷ s) ≡ (eqb c 48 && (slot_in r r.width (slot_at a b k r.width s) || farther (in_plain m n) k r.width s))
  far_plain c s =
      far_more (in_plain m n) k r.width c s R.some (λ u l. large_plain m n u (ends_low u l).0 (ends_low u l).1) ∙ rw (← plain_slot r.width s)

  far_minus : (c : ℕ) (s : List ℕ)
      → farther (in_minus m n) k r.width (c ∷ s)
      ≡ (eqb c 48 && (slot_in (opposite r) r.width (slot_at a b k r.width s) || farther (in_minus m n) k r.width s))
  far_minus c s =
      far_more (in_minus m n) k r.width c s R.some (λ u l. large_minus m n u (ends_low u l).0 (ends_low u l).1) ∙ rw (← minus_slot r.width s)

-- the code's steps: t as it was, l₁ with the slots moved, then the rest
module _ (cs : List ℕ) (p : ℕ) (next : Bool) (c : ℕ) (r : Range) (R : RangeOf cs p r) (t : State) (room : p < length t.slots) (above : p < length t.far)
    (x : Option Orders) (ex : x ≡ first_slot next) (l₁ : List (Option Orders)) (M : Moved cs p r c (set t.slots p x) l₁)
    (P Q : Bool) (eP : P ≡ any_slot r l₁ p r.width) (o : Range) (eo : o ≡ opposite r) (eQ : Q ≡ any_slot o l₁ p o.width)
    (n : Bool × Bool) (F : FarNext r (get_or t.slots (p + r.width) None) (get_or t.far p no_far) c n) where
  abbrev w : ℕ
  w = r.width

  abbrev f : Far
  f = record { plain = n.0; minus = n.1; behind = Q || n.1 }

  abbrev t₁ : State
  t₁ = record { slots = l₁; far = set t.far p f }

  kept_apart : (i : ℕ) → Apart cs p t t₁ i
  kept_apart i =
      let a : w + 3 ≤ range_more cs (p + 1) = R.room in
      record {
        slots = λ h.
            ⊎_elim
            (λ (u : i < p). (M.kept i).0 (omega arith) ∙ get_or-set_other t.slots p i x None (λ q. absurd (omega arith)))
            (λ (u : p + range_more cs (p + 1) < i). (M.kept i).1 (omega arith) ∙ get_or-set_other t.slots p i x None (λ q. absurd (omega arith)))
            h;
        far = λ h. get_or-set_other t.far p i f no_far h;
      }

  module _ (k : Strings) (s : List ℕ) (e : next ≡ k s) (K : Kept cs p r k s t) where
    abbrev A : List ℕ
    A = lows_of cs r.first

    abbrev B : List ℕ
    B = lows_of cs r.second

    old_slot : (j : ℕ) → j ≤ w → get_or (set t.slots p x) (p + j) None ≡ slot_at A B k j s
    old_slot zero h =
        let q : p + 0 ≡ p = omega arith in
        rw q (get_or-set_same t.slots p x None room ∙ ex ∙ (unfold first_slot in unfold slot_at in unfold valid in unfold order_at in rw e))
    old_slot (suc j) h = get_or-set_other t.slots p (p + suc j) x None (λ q. absurd (omega arith)) ∙ K.slots (suc j) (omega arith) h

    new_slot : (j : ℕ) → 0 < j → j ≤ w → get_or l₁ (p + j) None ≡ slot_at A B k j (c ∷ s)
    new_slot zero h i = absurd (omega arith)
    new_slot (suc j) h i =
        M.slots j (omega arith) ∙ rw (old_slot j (omega arith)) (slot_next A B k j c s R.first.digits R.second.digits)

    last_slot : get_or t.slots (p + w) None ≡ slot_at A B k w s
    last_slot = K.slots w R.some (omega arith)

    new_plain : n.0 ≡ farther (in_plain (first_end cs p) (second_end cs p)) k w (c ∷ s)
    new_plain = F.plain ∙ rw (last_slot, K.plain) (sym (far_plain cs p r R k c s))

    new_minus : n.1 ≡ farther (in_minus (first_end cs p) (second_end cs p)) k w (c ∷ s)
    new_minus = F.minus ∙ rw (last_slot, K.minus) (sym (far_minus cs p r R k c s))

    all_minus : Q ≡ near (in_minus (first_end cs p) (second_end cs p)) k w (c ∷ s)
    all_minus = eQ ∙ rw eo (near_minus cs p r R k (c ∷ s) l₁ w new_slot)

    new_behind : (Q || n.1) ≡ some_then (in_range (first_end cs p) (second_end cs p)) k (45 ∷ c ∷ s)
    new_behind = rw (all_minus, new_minus) (sym (hit_minus (first_end cs p) (second_end cs p) k w (c ∷ s)))

    far_is : get_or (set t.far p f) p no_far ≡ f
    far_is = get_or-set_same t.far p f no_far above

    kept_on : Kept cs p r k (c ∷ s) t₁
    kept_on =
        record {
          slots = λ j g h. new_slot j g h;
          plain = ap (λ (q : Far). q.plain) far_is ∙ new_plain;
          minus = ap (λ (q : Far). q.minus) far_is ∙ new_minus;
          behind = ap (λ (q : Far). q.behind) far_is ∙ new_behind;
        }

    hit_on : (c ≡ 45 → ⊥) → (P || n.0) ≡ some_then (in_range (first_end cs p) (second_end cs p)) k (c ∷ s)
    hit_on h =
        rw (eP, near_plain cs p r R k (c ∷ s) l₁ w new_slot, new_plain) (sym (hit_plain (first_end cs p) (second_end cs p) k w c s h))

    behind_on : c ≡ 45 → (get_or t.far p no_far).behind ≡ some_then (in_range (first_end cs p) (second_end cs p)) k (c ∷ s)
    behind_on q = K.behind ∙ ap (λ (i : ℕ). some_then (in_range (first_end cs p) (second_end cs p)) k (i ∷ s)) (sym q)

  pub range_behind : c ≡ 45 → RangeNext cs p next c t t₁ (get_or t.far p no_far).behind
  range_behind q =
      record {
        of = rw (← R.is) R;
        kept = kept_apart;
        is = λ k s e K. rw (← R.is) (let L : Kept cs p r k s t = rw (← R.is) at K in (behind_on k s e L q, kept_on k s e L));
      }

  pub range_on : (c ≡ 45 → ⊥) → RangeNext cs p next c t t₁ (P || n.0)
  range_on q =
      record {
        of = rw (← R.is) R;
        kept = kept_apart;
        is = λ k s e K. rw (← R.is) (let L : Kept cs p r k s t = rw (← R.is) at K in (hit_on k s e L q, kept_on k s e L));
      }

-- nothing is kept yet
pub none_kept : {A : Type 0} (n i : ℕ) (d : A) → get_or (replicate n d) i d ≡ d
none_kept zero i d = refl
none_kept (suc n) zero d = refl
none_kept (suc n) (suc i) d = none_kept n i d
