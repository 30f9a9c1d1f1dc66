-- One place more has its kind: the loops over the places of a column and of a line.
use Prim.Native.Nat.{ℕ, zero, suc, ◌+◌, ◌-◌, ◌<◌, ◌≤◌}
use native.Mathlib.Omega.{arith}
use native.Mathlib.Numerals.{add-one}
use mathlib.Core.Bool.{Bool, true, false}
use mathlib.Core.List.{List, [], ◌∷◌, ◌++◌, map, map-append}
use mathlib.Core.Logic.{inl, inr}
use mathlib.Core.Path.{◌≡◌, refl, sym, ap, ◌∙◌}
use lib.ListN.{length, get_or, take, drop, set, replicate, length-set, get_or-replicate}
use lib.Seq.{take-suc, take-suc-set, drop-set-lt, drop-drop, get_or-drop}
use Rattle.text_kinds.specs.Places.{Place, place_at, places_in, ascending, lines_asked}
use Rattle.text_kinds.specs.Reading.{line_of, column_of, place_count, From, IsPlace, IsOn, Ahead, Filled, Listed, Answered, PassedOver}
use Rattle.text_kinds.proofs.PlaceLaws.{place_at_law, from_next, from_trans, from_column, from_line}

asked_more : (ps : List Place) (p : Place) (n : ℕ) → lines_asked ps ≤ n → p.line < n → lines_asked (ps ++ (p ∷ [])) ≤ n
unfolding lines_asked
asked_more [] p n h k = omega arith
asked_more (q ∷ ps) p n h k = let r = asked_more ps p n (omega arith) k in omega arith

drop_zeros : (n : ℕ) → drop {A = ℕ} 1 (replicate n 0) ≡ replicate (n - 1) 0
drop_zeros zero = refl
drop_zeros (suc n) = let e : suc n - 1 ≡ n = omega arith in rw e

-- entry k, of the line and with the kind v
module _ {f : Place → ℕ} {list kinds : List ℕ} {lines k : ℕ} (r : Filled f list lines k kinds) (h : k < place_count list) (v : ℕ)
    (e : f (place_at (line_of list k) (column_of list k)) ≡ v) (l : line_of list k < lines)
  where
    d : Place
    d = place_at 0 0

    one_more : take (k + 1) (places_in list) ≡ take k (places_in list) ++ (place_at (line_of list k) (column_of list k) ∷ [])
    one_more = rw (add-one, take-suc (places_in list) k d h, place_at_law list k d h)

    kinds_more : map f (take (k + 1) (places_in list)) ≡ take k kinds ++ (v ∷ [])
    kinds_more = rw one_more (map-append f (take k (places_in list)) (place_at (line_of list k) (column_of list k) ∷ []) ∙ rw (r.front, e))

    passes : lines_asked (take (k + 1) (places_in list)) ≤ lines
    passes = rw one_more (asked_more (take k (places_in list)) _ lines r.passed l)

    zeros_left : drop (k + 1) kinds ≡ replicate (length kinds - (k + 1)) 0
    zeros_left =
        let n : length kinds - k - 1 ≡ length kinds - (k + 1) = omega arith in
        sym (drop-drop 1 k kinds) ∙ ap (drop 1) r.back ∙ drop_zeros (length kinds - k) ∙ ap (λ (m : ℕ). replicate m 0) n

    pub filled_set : Filled f list lines (k + 1) (set kinds k v)
    filled_set =
        let n : k < length kinds = omega (arith, r.room) in
        let s : length (set kinds k v) ≡ length kinds = length-set kinds k v in
        record {
          within = omega arith;
          room = omega (arith, r.room);
          front = rw add-one (take-suc-set kinds k v n) ∙ sym kinds_more;
          back = drop-set-lt (k + 1) kinds k v (omega arith) ∙ zeros_left ∙ ap (λ (m : ℕ). replicate (m - (k + 1)) 0) (sym s);
          passed = passes;
        }

    pub filled_skip : v ≡ 0 → Filled f list lines (k + 1) kinds
    filled_skip z =
        let n : k < length kinds = omega (arith, r.room) in
        let g : get_or kinds k 0 ≡ v =
        ap (λ (i : ℕ). get_or kinds i 0) (sym (plus_zero k)) ∙ sym (get_or-drop k kinds 0 0) ∙ ap (λ (x : List ℕ). get_or x 0 0) r.back
        ∙ get_or-replicate (length kinds - k) 0 0 0 (omega arith) ∙ sym z
        in
        record {
          within = omega arith;
          room = r.room;
          front = rw add-one (take-suc kinds k 0 n ∙ ap (λ (x : ℕ). take k kinds ++ (x ∷ [])) g) ∙ sym kinds_more;
          back = zeros_left;
          passed = passes;
        }
      where
        plus_zero : (k : ℕ) → k + 0 ≡ k
        plus_zero k = omega arith

-- ---- the places that are one

pub record Answering (list : List ℕ) (line column kind k : ℕ) (kinds₀ : List ℕ) (next : ℕ) (kinds : List ℕ) : Type 0 where
  pub long : length kinds ≡ length kinds₀
  pub filled : (f : Place → ℕ) → f (place_at line column) ≡ kind → Filled f list (suc line) k kinds₀ → Filled f list (suc line) next kinds
  pub ahead : Ahead list line column k → Ahead list line column next

pub answering_start : (list : List ℕ) (line column kind k : ℕ) (kinds : List ℕ) → Answering list line column kind k kinds k kinds
answering_start list line column kind k kinds = record { long = refl; filled = λ f e r. r; ahead = λ a. a }

module _ {list : List ℕ} {line column kind k : ℕ} {kinds₀ : List ℕ} {next : ℕ} {kinds : List ℕ} (r : Answering list line column kind k kinds₀ next kinds)
    (b : Bool) (p : IsPlace list next line column b)
  where
    pub answering_more : Listed list kinds₀ → b ≡ true → Answering list line column kind k kinds₀ (next + 1) (set kinds next kind)
    answering_more w t =
        let el = p.same_line t in
        let ec = p.same_column t in
        record {
          long = length-set kinds next kind ∙ r.long;
          filled = λ f e q. filled_set (r.filled f e q) (p.there t) kind (rw (el, ec) e) (omega arith);
          ahead = λ a. record { from = λ h. rw (el, ec) at (from_next list next w.order h) };
        }

    pub answering_end : b ≡ false → Answered list line column kind k kinds₀ next kinds
    answering_end t =
        record {
          long = r.long;
          filled = r.filled;
          ahead = λ a. record { from = λ h. from_column ((r.ahead a).from h) (p.other t h) };
        }

    pub answering_room : Listed list kinds₀ → b ≡ true → next < length kinds
    answering_room w t = omega (arith, p.there t, w.room, r.long)

-- ---- the places of a line that are left

pub record Passing (list : List ℕ) (line k next : ℕ) : Type 0 where
  pub filled : (f : Place → ℕ) (kinds : List ℕ) (column : ℕ) → Ahead list line column k
      → ((c : ℕ) → column ≤ c → f (place_at line c) ≡ 0)
      → Filled f list (suc line) k kinds → Filled f list (suc line) next kinds
  pub ahead : (column : ℕ) → Ahead list line column k → Ahead list line column next

pub passing_start : (list : List ℕ) (line k : ℕ) → Passing list line k k
passing_start list line k = record { filled = λ f kinds column a z r. r; ahead = λ column a. a }

module _ {list : List ℕ} {line k next : ℕ} (r : Passing list line k next) (b : Bool) (p : IsOn list next line b) where
  pub passing_more : (order : ascending (places_in list) ≡ true) → b ≡ true → Passing list line k (next + 1)
  passing_more order t =
      let el = p.same_line t in
      record {
        filled = λ f kinds column a z q.
            filled_skip (r.filled f kinds column a z q) (p.there t) 0
            (rw el (z (column_of list next) (behind ((r.ahead column a).from (p.there t)) el))) (omega arith) refl;
        ahead = λ column a. record { from = λ h. from_trans ((r.ahead column a).from (p.there t)) (from_next list next order h) };
      }
    where
      behind : {line column l c : ℕ} → From line column l c → l ≡ line → column ≤ c
      behind (inl h) e = absurd (omega arith)
      behind (inr h) e = h.1

  pub passing_end : b ≡ false → PassedOver list line k next
  passing_end t =
      record {
        filled = r.filled;
        ahead = λ column a. record { from = λ h. from_line ((r.ahead column a).from h) (p.other t h) };
      }
