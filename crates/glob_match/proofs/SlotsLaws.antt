-- The loop over the ranges of a name.
use Prim.Native.Nat.{ℕ, zero, suc, ◌+◌, ◌≤◌, ◌<◌}
use mathlib.Core.Bool.{Bool, true, false, true≢false}
use mathlib.Core.List.{List, [], ◌∷◌}
use mathlib.Core.Logic.{inl, inr, ⊎_elim}
use mathlib.Core.Path.{◌≡◌, refl, sym, ap, ◌∙◌}
use native.Mathlib.Numerals.{add-one}
use native.Mathlib.Omega.{arith}
use Rattle.std.specs.Prelude.{None}
use lib.ListN.{length, drop, get_or, set, drop_of_length-le}
use lib.Seq.{get_or-set_same, get_or-set_other, drop-drop}
use Rattle.utf8.proofs.Tests.{split}
use Rattle.rules.specs.Basics.{choose, first_is}
use Rattle.config_rules.specs.Numbers.{in_range, is_number, number_len, sign, digit_count}
use Rattle.config_rules.specs.Name.{Item, Token}
use Rattle.config_rules.specs.Name.Item.{part, same, one, run, ahead, range}
use Rattle.config_rules.specs.Name.Token.{item}
use Rattle.config_rules.specs.Globs.{Strings, some_then}
use Rattle.glob_pass.specs.Kinds.{range_in, held_at, held, kind_at}
use Rattle.glob_pass.specs.declared.kinds.Kind.{Kind}
use Rattle.glob_pass.specs.Pass.{here_at, Values, Hits}
use Rattle.glob_pass.proofs.TokenLaws.{length_held, held_at_law}
use Rattle.glob_name.specs.Read.{range_more, Spaced}
use Rattle.ranges.specs.Slots.{valid, from}
use Rattle.ranges.specs.Ranges.{first_end, second_end, range_for, slot_at, no_far, Empty, Kept, RangeNext}
use Rattle.ranges.specs.declared.Far.{Far}
use Rattle.ranges.specs.declared.State.{State}
use Rattle.ranges.proofs.EndLaws.{range_room}
use Rattle.glob_match.specs.Match.{range_kind, SlotsAt, RangesNext}

-- ---- a range is held by its kind alone

-- the ends of an item that is a range, none for the others
abbrev spans : Item → Bool
spans part = false
spans (same c) = false
spans (one p) = false
spans (run p) = false
spans ahead = false
spans (range m n) = true

abbrev is_range_token : Token → Bool
is_range_token (item i) = spans i
is_range_token Token.opens = false
is_range_token Token.comma = false
is_range_token Token.closes = false

abbrev plain_kind : Kind
plain_kind = Kind.Plain

covered_range : Kind.Covered ≡ range_kind → ⊥
covered_range e = cc

-- no other kind holds a range
range_held : (k : Kind) (s : List ℕ) → is_range_token (held_at k s) ≡ true → k ≡ range_kind
unfolding held_at
range_held Kind.Closes s e = absurd (true≢false (sym e))
range_held Kind.Comma s e = absurd (true≢false (sym e))
range_held Kind.Opens s e = absurd (true≢false (sym e))
range_held Kind.Plain s e = absurd (true≢false (sym e))
range_held Kind.Covered s e = absurd (true≢false (sym e))
range_held Kind.One s e = absurd (true≢false (sym e))
range_held Kind.Star s e = absurd (true≢false (sym e))
range_held Kind.Stars s e = absurd (true≢false (sym e))
range_held Kind.Set s e = absurd (true≢false (sym e))
range_held Kind.Range s e = refl
range_held Kind.Escape s e = absurd (true≢false (sym e))
range_held Kind.Ahead s e = absurd (true≢false (sym e))
range_held Kind.LoneCloses s e = absurd (true≢false (sym e))
range_held Kind.LoneComma s e = absurd (true≢false (sym e))
range_held Kind.LoneOpens s e = absurd (true≢false (sym e))

range_ends : (cs : List ℕ) (j : ℕ) → range_in (drop 1 (drop j cs)) ≡ range (first_end cs j) (second_end cs j)
unfolding range_in
range_ends cs j =
    let x : ℕ = number_len (drop (j + 1) cs) in
    let z : j + 1 + (x + 2) ≡ j + 1 + x + 2 = omega arith in
    rw (drop-drop 1 j cs, drop-drop (x + 2) (j + 1) cs, z)

held_nine : (s : List ℕ) (k : Kind) → k ≡ range_kind → held_at k s ≡ item (range_in (drop 1 s))
unfolding held_at
held_nine s k e = rw e

record Nine (ks : List Kind) (cs : List ℕ) (j : ℕ) (m n : List ℕ) (r : List Token) : Type 0 where
  inside : j < length ks
  kind : kind_at ks j ≡ range_kind
  first : m ≡ first_end cs j
  second : n ≡ second_end cs j
  rest : r ≡ drop (j + 1) (held ks cs)

nine : (ks : List Kind) (cs : List ℕ) (j : ℕ) (m n : List ℕ) (r : List Token) → length ks ≡ length cs → drop j (held ks cs) ≡ item (range m n) ∷ r → Nine ks cs j m n r
nine ks cs j m n r e d =
    let i : j < length ks =
    ⊎_elim (λ (h : j < length ks). h)
    (λ (h : length ks ≤ j).
    absurd (let z : 0 ≡ suc (length r) = ap length (sym (drop_of_length-le (held ks cs) {i = j} (rw (length_held ks cs e) h)) ∙ d) in omega arith)) (split j (length ks)) in
    let a : held_at (kind_at ks j) (drop j cs) ∷ drop (suc j) (held ks cs) ≡ item (range m n) ∷ r = sym (held_at_law ks cs j plain_kind e i) ∙ d in
    let t : held_at (kind_at ks j) (drop j cs) ≡ item (range m n) = cc in
    let q : drop (suc j) (held ks cs) ≡ r = cc in
    let k : kind_at ks j ≡ range_kind =
    range_held (kind_at ks j) (drop j cs) (ap is_range_token t) in
    let f : item (range (first_end cs j) (second_end cs j)) ≡ item (range m n) =
    sym (held_nine (drop j cs) (kind_at ks j) k ∙ ap item (range_ends cs j)) ∙ t in
    let g : m ≡ first_end cs j = cc in
    let h : n ≡ second_end cs j = cc in
    record { inside = i; kind = k; first = g; second = h; rest = rw (add-one j) (sym q) }

-- ---- what is kept of a range depends on its own places alone

kept_frame : (cs : List ℕ) (j : ℕ) (k : Strings) (s : List ℕ) (t t' : State) → 0 < range_more cs (j + 1)
    → ((i : ℕ) → j < i → i ≤ j + range_more cs (j + 1) → get_or t'.slots i None ≡ get_or t.slots i None) → get_or t'.far j no_far ≡ get_or t.far j no_far
    → Kept cs j (range_for cs j) k s t → Kept cs j (range_for cs j) k s t'
kept_frame cs j k s t t' h f g w =
    let r : (range_for cs j).width + 3 ≤ range_more cs (j + 1) = range_room cs j h in
    record {
      slots = λ i a b. f (j + i) (omega arith) (omega arith) ∙ w.slots i a b;
      plain = ap (λ (x : Far). x.plain) g ∙ w.plain;
      minus = ap (λ (x : Far). x.minus) g ∙ w.minus;
      behind = ap (λ (x : Far). x.behind) g ∙ w.behind;
    }

-- two ranges stand apart
apart : (cs : List ℕ) (ks : List Kind) → Spaced cs ks → (i j : ℕ) → i < j → j < length ks → kind_at ks i ≡ range_kind → kind_at ks j ≡ range_kind → i + range_more cs (i + 1) < j
apart cs ks w i j h b x y =
    ⊎_elim (λ (t : i + range_more cs (i + 1) < j). t)
    (λ (t : j ≤ i + range_more cs (i + 1)). absurd (covered_range (sym (w.parts i x j h t b) ∙ y))) (split (i + range_more cs (i + 1)) j)

-- ---- the loop

pub record RangingAt (ks : List Kind) (cs : List ℕ) (c p : ℕ) (s : List ℕ) (t : State) (h : List Bool) : Type 0 where
  pub done : (j : ℕ) → j < p → j < length ks → kind_at ks j ≡ range_kind
      → (get_or h j false ≡ some_then (in_range (first_end cs j) (second_end cs j)) (here_at (held ks cs) (j + 1)) (c ∷ s))
      × Kept cs j (range_for cs j) (here_at (held ks cs) (j + 1)) (c ∷ s) t
  pub left : (j : ℕ) → p ≤ j → j < length ks → kind_at ks j ≡ range_kind → Kept cs j (range_for cs j) (here_at (held ks cs) (j + 1)) s t

pub record Ranging (ks : List Kind) (cs : List ℕ) (v : List Bool) (c : ℕ) (t₀ : State) (p : ℕ) (t : State) (h : List Bool) : Type 0 where
  pub same : length ks ≡ length cs
  pub apart : Spaced cs ks
  pub at : (s : List ℕ) → Values (held ks cs) s v → SlotsAt ks cs s t₀ → RangingAt ks cs c p s t h

pub ranging_start : (ks : List Kind) (cs : List ℕ) (v : List Bool) (c : ℕ) (t : State) (h : List Bool) → length ks ≡ length cs → Spaced cs ks → Ranging ks cs v c t 0 t h
ranging_start ks cs v c t h e a =
    record {
      same = e;
      apart = a;
      at = λ s U S. record { done = λ j x. absurd (omega arith); left = λ j x y z. S.at j y z };
    }

module _ (ks : List Kind) (cs : List ℕ) (v : List Bool) (c : ℕ) (t₀ : State) (p : ℕ) (t : State) (h : List Bool) (w : Ranging ks cs v c t₀ p t h) where
  pub ranging_end : length ks ≤ p → RangesNext ks cs v c t₀ t h
  ranging_end z =
      record {
        is = λ s U S. (
          record {
            at = λ j m n r e. let N : Nine ks cs j m n r = nine ks cs j m n r w.same e in
                ((w.at s U S).done j (let a : j < length ks = N.inside in omega arith) N.inside N.kind).0
                ∙ rw (N.first, N.second, N.rest) refl;
          },
          record { at = λ j a b. ((w.at s U S).done j (omega arith) a b).1 },
        );
      }

  pub ranging_other : p < length ks → (kind_at ks p ≡ range_kind → ⊥) → Ranging ks cs v c t₀ (p + 1) t h
  ranging_other b n =
      record {
        same = w.same;
        apart = w.apart;
        at = λ s U S.
            record {
              done = λ j x y z.
                  ⊎_elim (λ (u : j < p). (w.at s U S).done j u y z)
                  (λ (u : p ≤ j). absurd (let q : j ≡ p = omega arith in n (ap (λ (i : ℕ). kind_at ks i) (sym q) ∙ z))) (split j p);
              left = λ j x y z. (w.at s U S).left j (omega arith) y z;
            };
      }

  module _ (b : p < length ks) (room : p < length h) (k : kind_at ks p ≡ range_kind) (t' : State) (hit : Bool) (N : RangeNext cs p (get_or v (p + 1) false) c t t' hit) where
    now_at : (s : List ℕ) → Values (held ks cs) s v → SlotsAt ks cs s t₀
        → (hit ≡ some_then (in_range (first_end cs p) (second_end cs p)) (here_at (held ks cs) (p + 1)) (c ∷ s))
        × Kept cs p (range_for cs p) (here_at (held ks cs) (p + 1)) (c ∷ s) t'
    now_at s U S =
        N.is (here_at (held ks cs) (p + 1)) s (U.at (p + 1) (rw (length_held ks cs w.same) (omega arith))) ((w.at s U S).left p (omega arith) b k)

    before_kept : (j : ℕ) → j < p → j < length ks → kind_at ks j ≡ range_kind → (K : Strings) (s : List ℕ) → Kept cs j (range_for cs j) K s t → Kept cs j (range_for cs j) K s t'
    before_kept j u y z K s q =
        let a : j + range_more cs (j + 1) < p = apart cs ks w.apart j p u b z k in
        kept_frame cs j K s t t' (w.apart.some j z) (λ i x m. (N.kept i).slots (inl (omega arith))) ((N.kept j).far (λ e. absurd (omega arith))) q

    after_kept : (j : ℕ) → p < j → j < length ks → kind_at ks j ≡ range_kind → (K : Strings) (s : List ℕ) → Kept cs j (range_for cs j) K s t → Kept cs j (range_for cs j) K s t'
    after_kept j u y z K s q =
        let a : p + range_more cs (p + 1) < j = apart cs ks w.apart p j u y k z in
        kept_frame cs j K s t t' (w.apart.some j z) (λ i x m. (N.kept i).slots (inr (omega arith))) ((N.kept j).far (λ e. absurd (omega arith))) q

    pub ranging_range : Ranging ks cs v c t₀ (p + 1) t' (set h p hit)
    ranging_range =
        record {
          same = w.same;
          apart = w.apart;
          at = λ s U S.
              record {
                done = λ j x y z.
                    ⊎_elim
                    (λ (u : j < p). (
                      get_or-set_other h p j hit false (λ q. absurd (omega arith)) ∙ ((w.at s U S).done j u y z).0,
                      before_kept j u y z (here_at (held ks cs) (j + 1)) (c ∷ s) ((w.at s U S).done j u y z).1,
                    ))
                    (λ (u : p ≤ j).
                    let q : j ≡ p = omega arith in
                    rw q (get_or-set_same h p hit false room ∙ (now_at s U S).0, (now_at s U S).1))
                    (split j p);
                left = λ j x y z. after_kept j (omega arith) y z (here_at (held ks cs) (j + 1)) s ((w.at s U S).left j (omega arith) y z);
              };
        }

-- ---- nothing read

from_none : (p k : Strings) (j : ℕ) → from p k (suc j) [] ≡ false
unfolding from
from_none p k j = refl

slot_none : (r t : List ℕ) (k : Strings) (i : ℕ) → 0 < i → slot_at r t k i [] ≡ None
unfolding slot_at valid choose
slot_none r t k zero h = absurd (omega arith)
slot_none r t k (suc i) h = refl

minus_none : (m n : List ℕ) (k : Strings) → some_then (in_range m n) k (45 ∷ []) ≡ false
unfolding some_then in_range is_number number_len sign first_is digit_count choose
minus_none m n k = refl

pub slots_start : (ks : List Kind) (cs : List ℕ) (t : State) → Empty t → SlotsAt ks cs [] t
slots_start ks cs t z = record { at = λ j a b. none_kept j _ }
  where
    none_kept : (j : ℕ) (k : Strings) → Kept cs j (range_for cs j) k [] t
    none_kept j k =
        record {
          slots = λ i a b. z.slots (j + i) ∙ sym (slot_none _ _ k i a);
          plain = ap (λ (x : Far). x.plain) (z.far j) ∙ sym (from_none _ k _);
          minus = ap (λ (x : Far). x.minus) (z.far j) ∙ sym (from_none _ k _);
          behind = ap (λ (x : Far). x.behind) (z.far j) ∙ sym (minus_none (first_end cs j) (second_end cs j) k);
        }

pub hits_start : (ts : List Token) (h : List Bool) → ((j : ℕ) → get_or h j false ≡ false) → Hits ts [] h
unfolding some_then in_range is_number number_len sign first_is digit_count choose
hits_start ts h z = record { at = λ j m n r e. z j }
