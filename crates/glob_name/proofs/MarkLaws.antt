-- The stack of flags, and the two loops that mark the braces and commas that stand for themselves.
use Rattle.std.specs.Prelude.{Option, Some, None}
use Prim.Native.Nat.{ℕ, zero, suc, ◌+◌, ◌-◌, ◌≤◌, ◌<◌}
use mathlib.Core.Bool.{Bool, true, false, not}
use mathlib.Core.List.{List, [], ◌∷◌, ◌++◌, append_assoc, append-nil}
use mathlib.Core.Path.{◌≡◌, refl, sym, ap, ◌∙◌}
use native.Mathlib.Numerals.{add-one}
use native.Mathlib.Omega.{arith}
use lib.ListN.{length, drop, take, get_or, set, length-set, length-take, drop_of_length-le}
use lib.Seq.{get_or-set_same, get_or-set_other, get_or-append_seam, set_at, drop-cons, take-suc, take-suc-set, drop-set-lt, take-length, drop-length}
use Rattle.glob_pass.specs.Kinds.{kind_at}
use Rattle.config_rules.specs.Name.{with_comma, outer}
use Rattle.glob_name.specs.declared.braces.Open.{Open}
use Rattle.glob_pass.specs.declared.kinds.Brace.{Brace}
use Rattle.glob_pass.specs.declared.kinds.Kind.{Kind}
use Rattle.glob_name.specs.Braces.{right_event, left_event, marked, stack_after, is_lone, open_right, mark_right, mark_left, flagged, open_braces, Happened}

abbrev plain_kind : Kind
plain_kind = Kind.Plain

-- ---- flags

flagged_set : (f : List Bool) (n m : ℕ) (x : Bool) → n ≤ m → flagged (set f m x) n ≡ flagged f n
unfolding flagged
flagged_set f zero m x h = refl
flagged_set f (suc n) m x h = rw (get_or-set_other f m n x false (λ e. absurd (omega arith)), flagged_set f n m x (omega arith))

flagged_push : (f : List Bool) (n : ℕ) (x : Bool) → n < length f → flagged (set f n x) (n + 1) ≡ x ∷ flagged f n
unfolding flagged
flagged_push f n x h = rw (add-one n, get_or-set_same f n x false, flagged_set f n n x (omega arith))

flagged_top : (f : List Bool) (n : ℕ) → (n ≡ 0 → ⊥) → flagged f n ≡ get_or f (n - 1) false ∷ flagged f (n - 1)
unfolding flagged
flagged_top f zero h = absurd (h refl)
flagged_top f (suc n) h = let e : suc n - 1 ≡ n = omega arith in rw e

flagged_top_set : (f : List Bool) (n : ℕ) (x : Bool) → (n ≡ 0 → ⊥) → n < length f → flagged (set f (n - 1) x) n ≡ x ∷ flagged f (n - 1)
flagged_top_set f n x h k =
    flagged_top (set f (n - 1) x) n h
    ∙ rw (get_or-set_same f (n - 1) x false (omega arith), flagged_set f (n - 1) (n - 1) x (omega arith))

module _ (o : Open) where
  pub happened_nothing : Happened None o o false
  unfolding is_lone stack_after
  happened_nothing = record { lone = refl; stack = refl; deep = omega arith; long = refl }

  pub happened_open : o.depth < length o.commas → Happened (Some Brace.Opens) o (record { commas = set o.commas o.depth false; depth = o.depth + 1 }) false
  unfolding is_lone stack_after
  happened_open h = record { lone = refl; stack = flagged_push o.commas o.depth false h; deep = omega arith; long = length-set o.commas o.depth false }

  pub happened_none : (b : Brace) → (b ≡ Brace.Opens → ⊥) → o.depth ≡ 0 → Happened (Some b) o o true
  unfolding is_lone stack_after flagged with_comma outer
  happened_none Brace.Opens n z = absurd (n refl)
  happened_none Brace.Comma n z = record { lone = rw z; stack = rw z; deep = omega arith; long = refl }
  happened_none Brace.Closes n z = record { lone = rw z; stack = rw z; deep = omega arith; long = refl }

  module _ (z : o.depth ≡ 0 → ⊥) where
    pub happened_comma : o.depth < length o.commas → Happened (Some Brace.Comma) o (record { commas = set o.commas (o.depth - 1) true; depth = o.depth }) false
    unfolding is_lone stack_after with_comma
    happened_comma h =
        record {
          lone = rw (flagged_top o.commas o.depth z);
          stack = rw (flagged_top o.commas o.depth z) (flagged_top_set o.commas o.depth true z h);
          deep = omega arith;
          long = length-set o.commas (o.depth - 1) true;
        }

    pub happened_close : (b : Brace) → (b ≡ Brace.Opens → ⊥) → (b ≡ Brace.Comma → ⊥)
        → Happened (Some b) o (record { commas = o.commas; depth = o.depth - 1 }) (not (get_or o.commas (o.depth - 1) false))
    unfolding is_lone stack_after outer
    happened_close Brace.Opens n m = absurd (n refl)
    happened_close Brace.Comma n m = absurd (m refl)
    happened_close Brace.Closes n m =
        record { lone = rw (flagged_top o.commas o.depth z); stack = rw (flagged_top o.commas o.depth z); deep = omega arith; long = refl }

-- ---- from the right

pub record FromRight (ks : List Kind) (p : ℕ) (kinds : List Kind) (o : Open) : Type 0 where
  pub place : p ≤ length ks
  pub deep : o.depth + p ≤ length ks
  pub room : length ks < length o.commas
  pub long : length kinds ≡ length ks
  pub is : kinds ≡ take p ks ++ mark_right (drop p ks)
  pub stack : open_braces o ≡ open_right (drop p ks)

pub right_start : (ks : List Kind) (o : Open) → length ks < length o.commas → o.depth ≡ 0 → FromRight ks (length ks) ks o
unfolding mark_right open_right flagged
right_start ks o h z =
    record {
      place = omega arith;
      deep = omega arith;
      room = h;
      long = refl;
      is = rw (drop-length ks, take-length ks) (sym (append-nil ks));
      stack = rw (z, drop-length ks);
    }

pub right_end : (ks : List Kind) (p : ℕ) (kinds : List Kind) (o : Open) → FromRight ks p kinds o → p ≤ 0 → kinds ≡ mark_right ks
right_end ks p kinds o w z = let e : p ≡ 0 = omega arith in rw e at w.is

module _ (ks : List Kind) (q : ℕ) (kinds : List Kind) (o : Open) (w : FromRight ks (suc q) kinds o) where
  split_q : kinds ≡ take q ks ++ (kind_at ks q ∷ mark_right (drop (suc q) ks))
  split_q =
      let b : suc q ≤ length ks = w.place in
      w.is ∙ ap (λ (l : List Kind). l ++ mark_right (drop (suc q) ks)) (take-suc ks q plain_kind (omega arith))
      ∙ append_assoc (take q ks) (kind_at ks q ∷ []) (mark_right (drop (suc q) ks))

  long_q : length (take q ks) ≡ q
  long_q = let b : suc q ≤ length ks = w.place in simp length-take (omega arith)

  at_q : kind_at kinds q ≡ kind_at ks q
  at_q =
      ap (λ (l : List Kind). kind_at l q) split_q
      ∙ ap (λ (n : ℕ). kind_at (take q ks ++ (kind_at ks q ∷ mark_right (drop (suc q) ks))) n) (sym long_q)
      ∙ get_or-append_seam (take q ks) (kind_at ks q) (mark_right (drop (suc q) ks)) plain_kind

  right_q : (e : Option Brace) (x : Kind) (o' : Open) (r : Bool) → e ≡ right_event (kind_at kinds q) → Happened e o o' r → x ≡ marked (kind_at kinds q) r
      → FromRight ks q (set kinds q x) o'
  unfolding mark_right open_right
  right_q e x o' r a h g =
      let b : suc q ≤ length ks = w.place in
      let c : o.depth + suc q ≤ length ks = w.deep in
      let i : o'.depth ≤ o.depth + 1 = h.deep in
      let j : drop q ks ≡ kind_at ks q ∷ drop (suc q) ks = drop-cons ks q plain_kind (omega arith) in
      let y : x ≡ marked (kind_at ks q) (is_lone (right_event (kind_at ks q)) (open_right (drop (suc q) ks))) =
      g ∙ rw (h.lone, w.stack, a, at_q) in
      record {
        place = omega arith;
        deep = omega arith;
        room = rw h.long w.room;
        long = length-set kinds q x ∙ w.long;
        is = ap (λ (l : List Kind). set l q x) split_q ∙ set_at (take q ks) (kind_at ks q) (mark_right (drop (suc q) ks)) x q long_q ∙ rw (j, y);
        stack = h.stack ∙ rw (a, at_q, w.stack, j);
      }

pub right_more : (ks : List Kind) (p : ℕ) (kinds : List Kind) (o : Open) → FromRight ks p kinds o → 0 < p
    → (e : Option Brace) (x : Kind) (o' : Open) (r : Bool) → e ≡ right_event (kind_at kinds (p - 1)) → Happened e o o' r
    → x ≡ marked (kind_at kinds (p - 1)) r → FromRight ks (p - 1) (set kinds (p - 1) x) o'
right_more ks p kinds o w h e x o' r a b c =
    let s : suc (p - 1) ≡ p = omega arith in right_q ks (p - 1) kinds o (rw s w) e x o' r a b c

-- ---- from the left

pub record FromLeft (ks : List Kind) (i : ℕ) (kinds : List Kind) (o : Open) : Type 0 where
  pub deep : o.depth ≤ i
  pub place : i ≤ length ks
  pub room : length ks < length o.commas
  pub long : length kinds ≡ length ks
  pub rest : drop i kinds ≡ drop i ks
  pub is : take i kinds ++ mark_left (open_braces o) (drop i ks) ≡ mark_left [] ks

pub left_start : (ks : List Kind) (o : Open) → length ks < length o.commas → o.depth ≡ 0 → FromLeft ks 0 ks o
unfolding flagged
left_start ks o h z = record { deep = omega arith; place = omega arith; room = h; long = refl; rest = refl; is = rw z refl }

module _ (ks : List Kind) (i : ℕ) (kinds : List Kind) (o : Open) (w : FromLeft ks i kinds o) where
  pub left_end : length kinds ≤ i → kinds ≡ mark_left [] ks
  unfolding mark_left
  left_end z =
      let l : length kinds ≡ length ks = w.long in
      let b : i ≤ length ks = w.place in
      let e : i ≡ length kinds = omega arith in
      let n : drop i ks ≡ [] = drop_of_length-le ks {i = i} (omega arith) in
      sym (append-nil kinds) ∙ ap (λ (k : List Kind). k ++ []) (sym (take-length kinds) ∙ ap (λ (j : ℕ). take j kinds) (sym e))
      ∙ sym (ap (λ (k : List Kind). take i kinds ++ mark_left (open_braces o) k) n) ∙ w.is

  at_i : i < length kinds → kind_at kinds i ≡ kind_at ks i
  at_i h =
      let l : length kinds ≡ length ks = w.long in
      let a : kind_at kinds i ∷ drop (suc i) kinds ≡ kind_at ks i ∷ drop (suc i) ks =
      sym (drop-cons kinds i plain_kind h) ∙ w.rest ∙ drop-cons ks i plain_kind (omega arith) in
      cc

  pub left_more : i < length kinds → (e : Option Brace) (x : Kind) (o' : Open) (r : Bool) → e ≡ left_event (kind_at kinds i) → Happened e o o' r
      → x ≡ marked (kind_at kinds i) r → FromLeft ks (i + 1) (set kinds i x) o'
  unfolding mark_left
  left_more h e x o' r a b g =
      let l : length kinds ≡ length ks = w.long in
      let c : o.depth ≤ i = w.deep in
      let dp : o'.depth ≤ o.depth + 1 = b.deep in
      let j : drop i ks ≡ kind_at ks i ∷ drop (suc i) ks = drop-cons ks i plain_kind (omega arith) in
      let n : drop (suc i) kinds ≡ drop (suc i) ks =
      (let u : kind_at kinds i ∷ drop (suc i) kinds ≡ kind_at ks i ∷ drop (suc i) ks =
      sym (drop-cons kinds i plain_kind h) ∙ w.rest ∙ j in cc) in
      record {
        deep = omega arith;
        place = omega arith;
        room = rw b.long w.room;
        long = length-set kinds i x ∙ w.long;
        rest = rw (add-one i, drop-set-lt (suc i) kinds i x (omega arith)) n;
        is =
            rw (add-one i, take-suc-set kinds i x h, append_assoc (take i kinds) (x ∷ []) (mark_left (open_braces o') (drop (suc i) ks)))
            (ap (λ (m : List Kind). take i kinds ++ m)
            (rw (g, b.lone, b.stack, a, at_i h) (sym (ap (mark_left (open_braces o)) j)))
            ∙ w.is);
      }
