-- A number's digits, one division by ten at a time.
--     digits_few, digits_more   the digits of a number below ten, and of another: those of its tenth, and one more
--     digits_short              a number of 64 bits has at most 20
--     Spelling                  the loop of `spell`
--     decimal_put               what `put_decimal` gives
use Prim.Native.Nat.{ℕ, zero, suc, ◌+◌, ◌-◌, ◌*◌, ◌/◌, ◌%◌, ◌^◌, ◌≤◌, ◌<◌}
use native.Mathlib.Omega.{arith}
use native.Mathlib.Nat.{div-lt_self, div-lt_iff_lt-mul, pow-suc}
use mathlib.Core.Bool.{Bool, true, false}
use mathlib.Core.List.{List, [], ◌∷◌, ◌++◌, append_assoc, append-nil}
use mathlib.Core.Path.{◌≡◌, refl, sym, ap, ◌∙◌}
use borrow.Author.Tests.{lt-ltb, le-ltb, ltb-true, ltb-false}
use lib.Dec.{ltb}
use lib.ListN.{length, drop, set, length-append, length-set}
use lib.Seq.{drop-length, drop-cons, drop-set-lt, get_or-set_same}
use Rattle.buffer.specs.Buffer.{part, Appended}
use Rattle.buffer.proofs.RegionLaws.{part_from}
use Rattle.decimal.specs.Decimal.{digit, digits_within, digits, Spelled, DecimalPut}

-- ---- the definition's steps: enough of them are enough

by_ten : (A : Type 0) (n : ℕ) → (n < 10 → A) → (10 ≤ n → A) → A
by_ten A n f g = go (ltb n 10) refl
  where
    go : (t : Bool) → ltb n 10 ≡ t → A
    go true e = f (ltb-true n 10 e)
    go false e = g (ltb-false n 10 e)

tenth : (n : ℕ) → 10 ≤ n → n / 10 < n
tenth n h = div-lt_self (omega arith) (omega arith)

enough : (j k n : ℕ) → n ≤ j → n ≤ k → digits_within j n ≡ digits_within k n
unfolding digits_within
enough zero zero n h l = refl
enough zero (suc k) n h l = rw (lt-ltb n 10 (omega arith))
enough (suc j) zero n h l = rw (lt-ltb n 10 (omega arith))
enough (suc j) (suc k) n h l =
    by_ten (digits_within (suc j) n ≡ digits_within (suc k) n) n
    (λ t. rw (lt-ltb n 10 t))
    (λ t.
    let s : n / 10 < n = tenth n t in
    let e : digits_within j (n / 10) ≡ digits_within k (n / 10) = enough j k (n / 10) (omega arith) (omega arith) in
    rw (le-ltb n 10 t) (ap (λ (l : List ℕ). l ++ digit (n % 10)) e))

pub digits_few : (n : ℕ) → n < 10 → digits n ≡ digit n
unfolding digits digits_within
digits_few zero h = refl
digits_few (suc n) h = rw (lt-ltb (suc n) 10 h)

pub digits_more : (n : ℕ) → 10 ≤ n → digits n ≡ digits (n / 10) ++ digit (n % 10)
unfolding digits digits_within
digits_more zero h = absurd (omega arith)
digits_more (suc n) h =
    let s : suc n / 10 < suc n = tenth (suc n) h in
    let e : digits_within n (suc n / 10) ≡ digits_within (suc n / 10) (suc n / 10) = enough n (suc n / 10) (suc n / 10) (omega arith) (omega arith) in
    rw (le-ltb (suc n) 10 h) (ap (λ (l : List ℕ). l ++ digit (suc n % 10)) e)

-- ---- how many there are

more_length : (n : ℕ) → 10 ≤ n → length (digits n) ≡ length (digits (n / 10)) + 1
more_length n h = ap length (digits_more n h) ∙ length-append (digits (n / 10)) (digit (n % 10))

fewer : (k n : ℕ) → n < 10 ^ suc k → length (digits n) ≤ suc k
fewer zero n h = rw (digits_few n (omega arith)) (omega arith)
fewer (suc k) n h =
    by_ten (length (digits n) ≤ suc (suc k)) n
    (λ t. rw (digits_few n t) (omega arith))
    (λ t.
    let p : n < 10 ^ suc k * 10 = rw (pow-suc 10 (suc k)) at h in
    let s : length (digits (n / 10)) ≤ suc k = fewer k (n / 10) ((div-lt_iff_lt-mul (omega arith)).1 p) in
    omega (arith, more_length n t))

pub digits_short : (n : ℕ) → n < 2 ^ 64 → length (digits n) ≤ 20
digits_short n h = fewer 19 n (omega arith)

pub digits_some : (n : ℕ) → 0 < length (digits n)
digits_some n = by_ten (0 < length (digits n)) n (λ t. rw (digits_few n t) (omega arith)) (λ t. omega (arith, more_length n t))

-- ---- the loop of `spell`: what is left of n, and the digits that stand at the end of room

pub record Spelling (n : ℕ) (room₀ room : List ℕ) (i rest : ℕ) : Type 0 where
  pub as_long : length room ≡ length room₀
  pub some : 0 < i
  pub within : i ≤ length room
  pub fits : length (digits rest) ≤ i
  pub done : digits n ≡ digits rest ++ drop i room

pub spelling_start : (n : ℕ) (room : List ℕ) → length (digits n) ≤ length room → Spelling n room room (length room) n
spelling_start n room h =
    record {
      as_long = refl;
      some = omega (arith, digits_some n);
      within = omega arith;
      fits = h;
      done = sym (rw drop-length (append-nil (digits n)));
    }

-- a byte set before those that stand
set_front : (room : List ℕ) (i b : ℕ) → i < length room → drop i (set room i b) ≡ b ∷ drop (suc i) room
set_front room i b h =
    let k : i < length (set room i b) = rw length-set h in
    drop-cons (set room i b) i 0 k ∙ rw (get_or-set_same room i b 0 h, drop-set-lt (suc i) room i b (omega arith))

set_before : (room : List ℕ) (i b : ℕ) → 0 < i → i ≤ length room → drop (i - 1) (set room (i - 1) b) ≡ b ∷ drop i room
set_before room i b p h =
    let e : suc (i - 1) ≡ i = omega arith in
    set_front room (i - 1) b (omega arith) ∙ rw e

module _ (n : ℕ) (room₀ room : List ℕ) (i rest : ℕ) (r : Spelling n room₀ room i rest) where
  pub spelling_more : 10 ≤ rest → Spelling n room₀ (set room (i - 1) (48 + rest % 10)) (i - 1) (rest / 10)
  spelling_more h =
      let l : length (set room (i - 1) (48 + rest % 10)) ≡ length room = length-set room (i - 1) (48 + rest % 10) in
      record {
        as_long = l ∙ r.as_long;
        some = omega (arith, r.fits, more_length rest h, digits_some (rest / 10));
        within = omega (arith, r.within);
        fits = omega (arith, r.fits, more_length rest h);
        done =
            r.done
            ∙ rw (digits_more rest h, set_before room i (48 + rest % 10) r.some r.within)
            (append_assoc (digits (rest / 10)) (digit (rest % 10)) (drop i room));
      }

  pub spelling_end : rest < 10 → Spelled (set room (i - 1) (48 + rest)) n (i - 1)
  spelling_end h =
      let l : length (set room (i - 1) (48 + rest)) ≡ length room = length-set room (i - 1) (48 + rest) in
      record {
        from = omega (arith, r.within);
        is = set_before room i (48 + rest) r.some r.within ∙ sym (r.done ∙ rw (digits_few rest h));
      }

-- the digits that stand at the end of room, appended
pub decimal_put : (n : ℕ) (room x y : List ℕ) (size from at r : ℕ) → n < 2 ^ 64 → Spelled room n from → length room ≡ size
    → Appended x y at (part room from size) r → DecimalPut x y at n r
decimal_put n room x y size from at r h s e w =
    let a : Appended x y at (digits n) r = rw (← e, part_from, s.is) at w in
    record { appended = a; short = omega (arith, a.next, digits_short n h) }

-- ---- computed: 0, 9, 10 and 16385

examples : (digits 0 ≡ 48 ∷ []) × (digits 9 ≡ 57 ∷ []) × (digits 10 ≡ 49 ∷ 48 ∷ []) × (digits 16385 ≡ 49 ∷ 54 ∷ 51 ∷ 56 ∷ 53 ∷ [])
unfolding digits digits_within
examples = (refl, refl, refl, refl)
