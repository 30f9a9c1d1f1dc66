-- Slots: what one of them holds, and the loops over them.
use Prim.Native.Nat.{ℕ, zero, suc, ◌+◌, ◌-◌, ◌≤◌, ◌<◌}
use mathlib.Core.Bool.{Bool, ◌&&◌, ◌||◌, or_assoc, or-false}
use mathlib.Core.List.{List}
use mathlib.Core.Logic.{⊎_elim}
use mathlib.Core.Path.{◌≡◌, refl, sym, ap, ◌∙◌}
use native.Mathlib.Omega.{arith}
use native.Mathlib.Nat.{add-zero}
use Rattle.std.specs.List.{list_any, range_with_len}
use lib.Dec.{eqb}
use lib.ListN.{length, get_or, set, length-set, get_or-eq_default}
use lib.Seq.{get_or-set_same, get_or-set_other}
use Rattle.utf8.proofs.Tests.{split}
use Rattle.std.specs.Prelude.{Option, None}
use Rattle.ranges.specs.Ranges.{lows, lows_of, slot_step, slot_in, any_slot, opposite, Moved, RangeOf, FarNext}
use Rattle.ranges.specs.declared.Orders.{Orders}
use Rattle.ranges.specs.declared.Far.{Far}
use Rattle.ranges.specs.declared.Range.{Range}

pub far_is : (r o : Range) (last : Option Orders) (far : Far) (c : ℕ) (a b : Bool) → a ≡ slot_in r r.width last → o ≡ opposite r → b ≡ slot_in o r.width last
    → FarNext r last far c (eqb c 48 && (a || far.plain), eqb c 48 && (b || far.minus))
far_is r o last far c a b e f g = record { plain = rw e; minus = rw (g, f) }

-- ---- digits

pub length_lows : (cs : List ℕ) (e n : ℕ) → length (lows cs e n) ≡ n
unfolding lows
length_lows cs e zero = refl
length_lows cs e (suc n) = ap suc (length_lows cs (e - 1) n)

lows_in : (cs : List ℕ) (e n j : ℕ) → j < n → get_or (lows cs e n) j 48 ≡ get_or cs (e - 1 - j) 0
unfolding lows
lows_in cs e zero j h = absurd (omega arith)
lows_in cs e (suc n) zero h = let z : e - 1 - 0 ≡ e - 1 = omega arith in rw z
lows_in cs e (suc n) (suc j) h = lows_in cs (e - 1) n j (omega arith) ∙ (let z : e - 1 - 1 - j ≡ e - 1 - suc j = omega arith in rw z)

pub lows_at : (cs : List ℕ) (e n j : ℕ) → j < n → get_or cs (e - 1 - j) 0 ≡ get_or (lows cs e n) j 48
lows_at cs e n j h = sym (lows_in cs e n j h)

pub lows_past : (cs : List ℕ) (e n j : ℕ) → n ≤ j → 48 ≡ get_or (lows cs e n) j 48
lows_past cs e n j h = sym (get_or-eq_default (lows cs e n) 48 (rw (length_lows cs e n) h))

-- ---- the slots move up

pub record Moving (cs : List ℕ) (p : ℕ) (r : Range) (c : ℕ) (l₀ : List (Option Orders)) (j : ℕ) (l : List (Option Orders)) : Type 0 where
  pub bound : j ≤ r.width
  pub inside : p + r.width < length l₀
  pub long : length l ≡ length l₀
  pub below : (i : ℕ) → i ≤ p + j → get_or l i None ≡ get_or l₀ i None
  pub above : (i : ℕ) → p + r.width < i → get_or l i None ≡ get_or l₀ i None
  pub slots : (i : ℕ) → j ≤ i → i < r.width
      → get_or l (p + suc i) None ≡ slot_step (get_or l₀ (p + i) None) c (get_or (lows_of cs r.first) i 48) (get_or (lows_of cs r.second) i 48)

pub moving_start : (cs : List ℕ) (p : ℕ) (r : Range) (c : ℕ) (l : List (Option Orders)) → RangeOf cs p r → length cs ≤ length l → Moving cs p r c l r.width l
moving_start cs p r c l w h =
    let a : r.width + 3 ≤ _ = w.room in
    let b : p + _ < length cs = w.fits in
    record {
      bound = omega arith;
      inside = omega arith;
      long = refl;
      below = λ i x. refl;
      above = λ i x. refl;
      slots = λ i x y. absurd (omega arith);
    }

module _ (cs : List ℕ) (p : ℕ) (r : Range) (c : ℕ) (l₀ : List (Option Orders)) (j : ℕ) (l : List (Option Orders)) (w : Moving cs p r c l₀ j l) where
  pub moving_more : 0 < j → (x : Option Orders) (d e : ℕ) → x ≡ slot_step (get_or l (p + (j - 1)) None) c d e → d ≡ get_or (lows cs r.first.end r.first.digits) (j - 1) 48
      → e ≡ get_or (lows cs r.second.end r.second.digits) (j - 1) 48 → Moving cs p r c l₀ (j - 1) (set l (p + j) x)
  moving_more h x d e f gd ge =
      let b : j ≤ r.width = w.bound in
      let n : p + r.width < length l₀ = w.inside in
      let m : length l ≡ length l₀ = w.long in
      let y : x ≡ slot_step (get_or l₀ (p + (j - 1)) None) c (get_or (lows_of cs r.first) (j - 1) 48) (get_or (lows_of cs r.second) (j - 1) 48) =
      f ∙ rw (gd, ge, w.below (p + (j - 1)) (omega arith)) in
      record {
        bound = omega arith;
        inside = w.inside;
        long = length-set l (p + j) x ∙ w.long;
        below = λ i a. get_or-set_other l (p + j) i x None (λ q. absurd (omega arith)) ∙ w.below i (omega arith);
        above = λ i a. get_or-set_other l (p + j) i x None (λ q. absurd (omega arith)) ∙ w.above i a;
        slots = λ i a k.
            ⊎_elim
            (λ (t : i < j).
            let z : i ≡ j - 1 = omega arith in
            let u : p + suc i ≡ p + j = omega arith in
            rw (u, get_or-set_same l (p + j) x None (omega arith), z) y)
            (λ (t : j ≤ i). get_or-set_other l (p + j) (p + suc i) x None (λ q. absurd (omega arith)) ∙ w.slots i t k)
            (split i j);
      }

  pub moving_end : j ≤ 0 → Moved cs p r c l₀ l
  moving_end z =
      record {
        kept = λ i. (λ h. w.below i (omega arith), λ h. w.above i h);
        slots = λ i h. w.slots i (omega arith) h;
      }

-- ---- any of them

-- the last of the numbers from a on
any_last : (test : ℕ → Bool) (a n : ℕ)
    → list_any test (range_with_len a (suc n)) ≡ (list_any test (range_with_len a n) || test (a + n))
any_last test a zero = rw (add-zero a, or-false)
any_last test a (suc n) =
    let z : a + 1 + n ≡ a + suc n = omega arith in
    ap (λ (b : Bool). test a || b) (any_last test (a + 1) n ∙ rw z)
    ∙ sym (or_assoc (test a) (list_any test (range_with_len (a + 1) n)) (test (a + suc n)))

abbrev pub found_in : Range → List (Option Orders) → ℕ → ℕ → Bool
found_in r l p j = slot_in r j (get_or l (p + j) None)

pub found_among : (r : Range) (l : List (Option Orders)) (p n : ℕ)
    → list_any (found_in r l p) (range_with_len 1 n) ≡ any_slot r l p n
unfolding any_slot
found_among r l p zero = refl
found_among r l p (suc n) =
    let z : 1 + n ≡ suc n = omega arith in
    any_last (found_in r l p) 1 n ∙ rw (z, found_among r l p n)
