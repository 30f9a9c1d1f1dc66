-- A range at a place of a name, and what code keeps of it.
use Rattle.std.specs.declared.cmp.Ordering.{Ordering}
use Rattle.std.specs.Prelude.{ℕ, zero, suc, ◌+◌, ◌-◌, ◌≤◌, ◌<◌, max, Bool, true, false, not, ◌&&◌, ◌||◌, List, [], ◌∷◌, ◌≡◌, ltb, eqb, length, get_or, take, drop, Option, Some, None}
use Rattle.rules.specs.Basics.{choose}
use Rattle.config_rules.specs.Numbers.{is_digit, number_len, in_range}
use Rattle.config_rules.specs.Globs.{Strings, some_then}
use Rattle.glob_name.specs.Read.{range_more}
use mathlib.Core.Logic.{◌⊎◌}
use Rattle.ranges.specs.Slots.{order_then, valid, order_at, inside_of, whole_of, all_digits, all, minus, size, in_plain}
use Rattle.ranges.specs.Slots.{in_minus, farther}
use Rattle.ranges.specs.declared.End.{End}
use Rattle.ranges.specs.declared.Range.{Range}
use Rattle.ranges.specs.declared.Orders.{Orders}
use Rattle.ranges.specs.declared.Far.{Far}
use Rattle.ranges.specs.declared.State.{State}

-- the n digits before e, the lowest first
unfoldable pub lows : List ℕ → ℕ → ℕ → List ℕ
lows cs e zero = []
lows cs e (suc n) = get_or cs (e - 1) 0 ∷ lows cs (e - 1) n

abbrev pub lows_of : List ℕ → End → List ℕ
lows_of cs e = lows cs e.end e.digits

-- e is the end m of a range: its sign, and its digits without leading zeros
pub record EndAt (cs m : List ℕ) (e : End) : Type 0 where
  pub fits : e.digits ≤ e.end
  pub bound : e.end ≤ length cs
  pub digits : all_digits (lows_of cs e) ≡ true
  pub value : all (lows_of cs e) ≡ size m
  pub led : (j : ℕ) → ltb 0 (all (drop j (lows_of cs e))) ≡ ltb j e.digits
  pub sign : e.minus ≡ minus m

-- the ends of the range whose brace stands at p
abbrev pub first_end : List ℕ → ℕ → List ℕ
first_end cs p = take (number_len (drop (p + 1) cs)) (drop (p + 1) cs)

abbrev pub second_at : List ℕ → ℕ → ℕ
second_at cs p = p + 1 + number_len (drop (p + 1) cs) + 2

abbrev pub second_end : List ℕ → ℕ → List ℕ
second_end cs p = take (number_len (drop (second_at cs p) cs)) (drop (second_at cs p) cs)

-- past at most n zeros from i on
unfoldable pub past_zeros : List ℕ → ℕ → ℕ → ℕ
past_zeros cs i zero = i
past_zeros cs i (suc n) = choose (eqb (get_or cs i 0) 48) (past_zeros cs (suc i) n) i

-- the end that stands at `from` and is n characters long, and a range of two of them
unfoldable pub end_of : List ℕ → ℕ → ℕ → End
end_of cs from n =
    choose (eqb (get_or cs from 0) 45)
    (record { minus = true; end = from + n; digits = from + n - past_zeros cs (from + 1) (from + n - (from + 1)) })
    (record { minus = false; end = from + n; digits = from + n - past_zeros cs from (from + n - from) })

unfoldable pub range_for : List ℕ → ℕ → Range
range_for cs p =
    let f = end_of cs (p + 1) (number_len (drop (p + 1) cs)) in
    let s = end_of cs (second_at cs p) (number_len (drop (second_at cs p) cs)) in
    record { first = f; second = s; width = max (max f.digits s.digits) 1 }

pub record RangeOf (cs : List ℕ) (p : ℕ) (r : Range) : Type 0 where
  pub first : EndAt cs (first_end cs p) r.first
  pub second : EndAt cs (second_end cs p) r.second
  pub some : 0 < r.width
  pub wide : r.first.digits ≤ r.width
  pub broad : r.second.digits ≤ r.width
  pub room : r.width + 3 ≤ range_more cs (p + 1)
  pub fits : p + range_more cs (p + 1) < length cs
  pub is : r ≡ range_for cs p

-- all zeros from `from` up to i, which is `end` or stands at another character
pub record PastZeros (cs : List ℕ) (from end i : ℕ) : Type 0 where
  pub start : from ≤ i
  pub stop : i ≤ end
  pub zeros : (j : ℕ) → from ≤ j → j < i → get_or cs j 0 ≡ 48
  pub other : i < end → get_or cs i 0 ≡ 48 → ⊥
  pub is : i ≡ past_zeros cs from (end - from)

-- ---- slots: the orders against the two ends, where the characters are digits

unfoldable pub slot_step : Option Orders → ℕ → ℕ → ℕ → Option Orders
slot_step None c d e = None
slot_step (Some o) c d e = choose (is_digit c) (Some (record { first = order_then c d o.first; second = order_then c e o.second })) None

unfoldable pub slot_in : Range → ℕ → Option Orders → Bool
slot_in r j None = false
slot_in r j (Some o) =
    inside_of r.first.minus (eqb r.first.digits 0) r.second.minus (eqb r.second.digits 0)
    (whole_of (ltb j r.first.digits) o.first) (whole_of (ltb j r.second.digits) o.second)

unfoldable pub any_slot : Range → List (Option Orders) → ℕ → ℕ → Bool
any_slot r l p zero = false
any_slot r l p (suc j) = any_slot r l p j || slot_in r (suc j) (get_or l (p + suc j) None)

-- the same with both signs changed, for what stands behind a minus
abbrev pub turned : End → End
turned e = record { minus = not e.minus; end = e.end; digits = e.digits }

abbrev pub opposite : Range → Range
opposite r = record { first = turned r.first; second = turned r.second; width = r.width }

-- what a slot holds at s: whether its characters are digits and k holds behind them, with the orders against r and t
unfoldable pub slot_at : List ℕ → List ℕ → Strings → ℕ → List ℕ → Option Orders
slot_at r t k j s = choose (valid k j s) (Some (record { first = order_at r j s; second = order_at t j s })) None

unfoldable pub first_slot : Bool → Option Orders
first_slot b = choose b (Some (record { first = Ordering.Equal; second = Ordering.Equal })) None

-- of no range
abbrev pub no_far : Far
no_far = record { plain = false; minus = false; behind = false }

pub record Empty (t : State) : Type 0 where
  pub slots : (i : ℕ) → get_or t.slots i None ≡ None
  pub far : (i : ℕ) → get_or t.far i no_far ≡ no_far

-- the longer numbers, as they stand and behind a minus
pub record FarNext (r : Range) (last : Option Orders) (far : Far) (c : ℕ) (n : Bool × Bool) : Type 0 where
  pub plain : n.0 ≡ (eqb c 48 && (slot_in r r.width last || far.plain))
  pub minus : n.1 ≡ (eqb c 48 && (slot_in (opposite r) r.width last || far.minus))

-- the slots of one range move up by one
pub record Moved (cs : List ℕ) (p : ℕ) (r : Range) (c : ℕ) (l l' : List (Option Orders)) : Type 0 where
  pub kept : (i : ℕ) → (i ≤ p → get_or l' i None ≡ get_or l i None) × (p + r.width < i → get_or l' i None ≡ get_or l i None)
  pub slots : (j : ℕ) → j < r.width
      → get_or l' (p + suc j) None
      ≡ slot_step (get_or l (p + j) None) c (get_or (lows_of cs r.first) j 48) (get_or (lows_of cs r.second) j 48)

-- ---- what is kept of the range at p, where k follows it, at s

pub record Kept (cs : List ℕ) (p : ℕ) (r : Range) (k : Strings) (s : List ℕ) (t : State) : Type 0 where
  pub slots : (j : ℕ) → 0 < j → j ≤ r.width
      → get_or t.slots (p + j) None ≡ slot_at (lows_of cs r.first) (lows_of cs r.second) k j s
  pub plain : (get_or t.far p no_far).plain ≡ farther (in_plain (first_end cs p) (second_end cs p)) k r.width s
  pub minus : (get_or t.far p no_far).minus ≡ farther (in_minus (first_end cs p) (second_end cs p)) k r.width s
  pub behind : (get_or t.far p no_far).behind ≡ some_then (in_range (first_end cs p) (second_end cs p)) k (45 ∷ s)

-- what is kept outside of the range at p stays
pub record Apart (cs : List ℕ) (p : ℕ) (t t' : State) (i : ℕ) : Type 0 where
  pub slots : (i < p) ⊎ (p + range_more cs (p + 1) < i) → get_or t'.slots i None ≡ get_or t.slots i None
  pub far : (i ≡ p → ⊥) → get_or t'.far i no_far ≡ get_or t.far i no_far

-- one character more: the ends are those that the characters have
pub record RangeNext (cs : List ℕ) (p : ℕ) (next : Bool) (c : ℕ) (t t' : State) (hit : Bool) : Type 0 where
  pub of : RangeOf cs p (range_for cs p)
  pub kept : (i : ℕ) → Apart cs p t t' i
  pub is : (k : Strings) (s : List ℕ) → next ≡ k s → Kept cs p (range_for cs p) k s t
      → (hit ≡ some_then (in_range (first_end cs p) (second_end cs p)) k (c ∷ s)) × Kept cs p (range_for cs p) k (c ∷ s) t'
