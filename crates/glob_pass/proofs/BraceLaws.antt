-- Braces and commas: the stack of open braces, the innermost first.
use Prim.Native.Nat.{ℕ, zero, suc, ◌+◌, ◌-◌, ◌≤◌, ◌<◌}
use mathlib.Core.Bool.{Bool, true, false, ◌||◌, true≢false}
use mathlib.Core.List.{List, [], ◌∷◌}
use mathlib.Core.Path.{◌≡◌, refl, sym, ap, ◌∙◌}
use native.Mathlib.Numerals.{add-one}
use native.Mathlib.Omega.{arith}
use denote.Enum.Bare.{sameb}
use lib.ListN.{length, get_or, set, length-set}
use lib.Seq.{get_or-set_same, get_or-set_other}
use Rattle.config_rules.specs.Globs.{Strings, Place, Around, place_at, closing, between, opening}
use Rattle.glob_pass.specs.Kinds.{brace_of}
use Rattle.glob_pass.specs.contracts.kinds.Brace.{the_type}
use Rattle.glob_pass.specs.declared.Side.{Side}
use Rattle.glob_pass.specs.declared.Braces.{Braces}
use Rattle.glob_pass.specs.declared.kinds.Brace.{Brace}
use Rattle.glob_pass.specs.Pass.{stacked, open_braces, seen, Turn, Braced}

-- of no brace
abbrev pub none : Side
none = record { others = false; after = false }

-- writes at or above the height
stacked_set : (l : List Side) (n m : ℕ) (x : Side) → n ≤ m → stacked (set l m x) n ≡ stacked l n
stacked_set l zero m x h = refl
stacked_set l (suc n) m x h = rw (get_or-set_other l m n x none (λ e. absurd (omega arith)), stacked_set l n m x (omega arith))

stacked_push : (l : List Side) (n : ℕ) (x : Side) → n < length l → stacked (set l n x) (n + 1) ≡ x ∷ stacked l n
stacked_push l n x h = rw (add-one n, get_or-set_same l n x none, stacked_set l n n x (omega arith))

stacked_top : (l : List Side) (n : ℕ) → (n ≡ 0 → ⊥) → stacked l n ≡ get_or l (n - 1) none ∷ stacked l (n - 1)
stacked_top l zero h = absurd (h refl)
stacked_top l (suc n) h = let e : suc n - 1 ≡ n = omega arith in rw e

-- the top changed
stacked_change : (l : List Side) (n : ℕ) (x : Side) → (n ≡ 0 → ⊥) → n - 1 < length l → stacked (set l (n - 1) x) n ≡ x ∷ stacked l (n - 1)
stacked_change l n x h k = stacked_top (set l (n - 1) x) n h ∙ rw (get_or-set_same l (n - 1) x none, stacked_set l (n - 1) (n - 1) x (omega arith))

-- ---- at one string

between_none : (k : Strings) (bs : List Around) (s : List ℕ) (next : Bool) (st : List Side) → st ≡ [] → next ≡ k s
    → st ≡ seen s bs → Turn (between k bs) s next st
unfolding between seen
between_none k [] s next st z e f = record { here = e; around = f }
between_none k (b ∷ bs) s next st z e f =
    let n : 0 ≡ suc (length (seen s bs)) = ap length (sym z ∙ f) in absurd (omega arith)

opening_none : (k : Strings) (bs : List Around) (s : List ℕ) (next : Bool) (st : List Side) → st ≡ [] → next ≡ k s
    → st ≡ seen s bs → Turn (opening k bs) s next st
unfolding opening seen
opening_none k [] s next st z e f = record { here = e; around = f }
opening_none k (b ∷ bs) s next st z e f =
    let n : 0 ≡ suc (length (seen s bs)) = ap length (sym z ∙ f) in absurd (omega arith)

between_some : (k : Strings) (bs : List Around) (s : List ℕ) (next x y : Bool) (st : List Side) → next ≡ k s
    → record { others = x; after = y } ∷ st ≡ seen s bs
    → Turn (between k bs) s y (record { others = next || x; after = y } ∷ st)
unfolding between seen
between_some k [] s next x y st e f = let n : suc (length st) ≡ 0 = ap length f in absurd (omega arith)
between_some k (b ∷ bs) s next x y st e f =
    let t : st ≡ seen s bs = cc in
    let g : ◌≡◌ {A = Side} (record { others = x; after = y }) (record { others = b.others s; after = b.after s }) = cc in
    let gx : x ≡ b.others s = ap (λ (r : Side). r.others) g in
    let gy : y ≡ b.after s = ap (λ (r : Side). r.after) g in
    record { here = gy; around = rw (e, gx, gy, t) }

opening_some : (k : Strings) (bs : List Around) (s : List ℕ) (next x y : Bool) (st : List Side) → next ≡ k s
    → record { others = x; after = y } ∷ st ≡ seen s bs → Turn (opening k bs) s (next || x) st
unfolding opening seen
opening_some k [] s next x y st e f = let n : suc (length st) ≡ 0 = ap length f in absurd (omega arith)
opening_some k (b ∷ bs) s next x y st e f =
    let t : st ≡ seen s bs = cc in
    let g : ◌≡◌ {A = Side} (record { others = x; after = y }) (record { others = b.others s; after = b.after s }) = cc in
    let gx : x ≡ b.others s = ap (λ (r : Side). r.others) g in
    record { here = rw (e, gx); around = t }

closing_turn : (p : Place) (s : List ℕ) (next : Bool) (st : List Side) → Turn p s next st
    → Turn (closing p) s next (record { others = false; after = next } ∷ st)
unfolding closing seen
closing_turn p s next st w = record { here = w.here; around = rw (w.here, w.around) }

-- ---- the step

-- what `==` says
pub is_brace : (a b : Brace) → true ≡ sameb the_type a b → a ≡ b
is_brace Brace.Closes Brace.Closes e = refl
is_brace Brace.Closes Brace.Comma e = absurd (true≢false e)
is_brace Brace.Closes Brace.Opens e = absurd (true≢false e)
is_brace Brace.Comma Brace.Closes e = absurd (true≢false e)
is_brace Brace.Comma Brace.Comma e = refl
is_brace Brace.Comma Brace.Opens e = absurd (true≢false e)
is_brace Brace.Opens Brace.Closes e = absurd (true≢false e)
is_brace Brace.Opens Brace.Comma e = absurd (true≢false e)
is_brace Brace.Opens Brace.Opens e = refl

pub other_brace : (a b : Brace) → false ≡ sameb the_type a b → a ≡ b → ⊥
other_brace a b e q = self b (rw q at e)
  where
    self : (a : Brace) → false ≡ sameb the_type a a → ⊥
    self Brace.Closes e = true≢false (sym e)
    self Brace.Comma e = true≢false (sym e)
    self Brace.Opens e = true≢false (sym e)

module _ (b : Braces) (x : Bool) where
  pub braced_closes : b.depth < length b.sides
      → Braced Brace.Closes b x (record { sides = set b.sides b.depth (record { others = false; after = x }); depth = b.depth + 1 }) x
  unfolding place_at brace_of
  braced_closes h =
      record {
        deep = omega arith;
        room = length-set b.sides b.depth (record { others = false; after = x });
        turn = λ p s w.
            let r : Turn (closing p) s x (record { others = false; after = x } ∷ open_braces b) = closing_turn p s x (open_braces b) w in
            record { here = r.here; around = stacked_push b.sides b.depth (record { others = false; after = x }) h ∙ r.around };
      }

  pub braced_none : (k : Brace) → (k ≡ Brace.Closes → ⊥) → b.depth ≡ 0 → Braced k b x b x
  unfolding place_at brace_of
  braced_none Brace.Closes n z = absurd (n refl)
  braced_none Brace.Comma n z =
      record { deep = omega arith; room = refl; turn = λ p s w. between_none p.here p.around s x (open_braces b) (rw z) w.here w.around }
  braced_none Brace.Opens n z =
      record { deep = omega arith; room = refl; turn = λ p s w. opening_none p.here p.around s x (open_braces b) (rw z) w.here w.around }

  module _ (z : b.depth ≡ 0 → ⊥) where
    abbrev pub top : Side
    top = get_or b.sides (b.depth - 1) none

    open_top : open_braces b ≡ record { others = top.others; after = top.after } ∷ stacked b.sides (b.depth - 1)
    open_top = stacked_top b.sides b.depth z

    pub braced_comma : b.depth - 1 < length b.sides
        → Braced Brace.Comma b x (record { sides = set b.sides (b.depth - 1) (record { others = x || top.others; after = top.after }); depth = b.depth }) top.after
    unfolding place_at brace_of
    braced_comma h =
        record {
          deep = omega arith;
          room = length-set b.sides (b.depth - 1) (record { others = x || top.others; after = top.after });
          turn = λ p s w.
              let r : Turn (between p.here p.around) s top.after (record { others = x || top.others; after = top.after } ∷ stacked b.sides (b.depth - 1)) =
              between_some p.here p.around s x _ _ _ w.here (sym open_top ∙ w.around) in
              record { here = r.here; around = stacked_change b.sides b.depth (record { others = x || top.others; after = top.after }) z h ∙ r.around };
        }

    pub braced_opens : (k : Brace) → (k ≡ Brace.Closes → ⊥) → (k ≡ Brace.Comma → ⊥)
        → Braced k b x (record { sides = b.sides; depth = b.depth - 1 }) (x || top.others)
    unfolding place_at brace_of
    braced_opens Brace.Closes n m = absurd (n refl)
    braced_opens Brace.Comma n m = absurd (m refl)
    braced_opens Brace.Opens n m =
        record {
          deep = omega arith;
          room = refl;
          turn = λ p s w. opening_some p.here p.around s x _ _ _ w.here (sym open_top ∙ w.around);
        }
