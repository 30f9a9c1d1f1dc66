-- The loops that read strings: their invariants, and what each way through a turn makes of them.
use Prim.Native.Nat.{ℕ, ◌+◌, ◌-◌, ◌<◌, ◌≤◌}
use mathlib.Core.Bool.{Bool, true, false, not, ◌||◌, true≢false}
use mathlib.Core.Path.{◌≡◌, refl, sym, ◌∙◌}
use mathlib.Core.List.{List, [], ◌∷◌}
use native.Mathlib.Omega.{arith}
use borrow.Author.Tests.{eqb-false}
use lib.Dec.{eqb}
use lib.ListN.{length, get_or, drop, set}
use Rattle.rules.specs.declared.Class.{Class}
use Rattle.rules.specs.declared.Mode.{Mode}
use Rattle.rules.specs.Basics.{starts_with, at}
use Rattle.rules.specs.Scan.{one, quote, mark_at, at_quote}
use Rattle.blocks.specs.Blocks.{FirstFrom}
use Rattle.scan.specs.Marked.{Marked}
use Rattle.scan.proofs.RunLaws.{run_marked}
use Rattle.scan.specs.Stretch.{stops_string, PlainString, Moved, Scanned, PairRead, InnerRead, InterpRead, DollarRead, fresh}
use Rattle.scan.proofs.StartsLaws.{starts_is, starts_not, starts_other, starts_more}
use Rattle.scan.proofs.MarkLaws.{inner_escape, inner_end, inner_plain, interp_escape, interp_double, interp_single, interp_open, interp_end, interp_close, interp_plain, quoted_escape, quoted_interp, quoted_end, quoted_plain}
use Rattle.scan.proofs.ScannedLaws.{moved_start, moved_then, moved_one, scanned_start, scanned_then, scanned_one, scanned_last, then_one}

none_of_four : (a b c d : Bool) → (a || b || c || d) ≡ false → (a ≡ false) × (b ≡ false) × (c ≡ false) × (d ≡ false)
none_of_four true b c d h = absurd (true≢false h)
none_of_four false true c d h = absurd (true≢false h)
none_of_four false false true d h = absurd (true≢false h)
none_of_four false false false d h = (refl, refl, refl, h)

quote_there : (line : List ℕ) (i e : ℕ) (q : Bool) → i < length line → e ≡ quote q → get_or line i 0 ≡ e → true ≡ at_quote (drop i line) q
quote_there line i e q l f g = starts_is line i (quote q) l (g ∙ f)

quote_not : (line : List ℕ) (i e : ℕ) (q : Bool) → i < length line → e ≡ quote q → (get_or line i 0 ≡ e → ⊥) → false ≡ at_quote (drop i line) q
quote_not line i e q l f n = starts_not line i (quote q) [] l (λ h. n (h ∙ sym f))

-- in a string inside a `${`
pub record InInner (line : List ℕ) (a : ℕ) (k : Bool) (class₀ class : List ℕ) (i : ℕ) : Type 0 where
  pub moved : Moved line a class₀ i class
  pub scanned : (q : Bool) (d : ℕ) → Scanned line (fresh (Mode.Inner q d k)) a class₀ (fresh (Mode.Inner q d k)) i class

pub inner_begins : (line : List ℕ) (a : ℕ) (k : Bool) (class : List ℕ) → a ≤ length line → InInner line a k class class a
inner_begins line a k class l = record { moved = moved_start line a class l; scanned = λ q d. scanned_start line (fresh (Mode.Inner q d k)) a class l }

moved_pair : {line : List ℕ} {a i e : ℕ} {x y z : List ℕ} → Moved line a x i y → Moved line (i + 1) y e z → Moved line a x e z
moved_pair p q = record { on = omega arith; within = q.within; as_long = q.as_long ∙ p.as_long }

module _ {line : List ℕ} {a : ℕ} {k : Bool} {class₀ class : List ℕ} {i : ℕ} (p : InInner line a k class₀ class i) where
  pub inner_escapes : {e : ℕ} {after : List ℕ} → i < length line → get_or line i 0 ≡ 92 → PairRead line i 1 class e after → InInner line a k class₀ after e
  inner_escapes l f r =
      record {
        moved = moved_pair p.moved r.moved;
        scanned = λ q d. scanned_then (p.scanned q d) (r.scanned (Mode.Inner q d k) (Mode.Inner q d k) Class.Str refl (inner_escape (drop i line) q d k (starts_is line i 92 l f)));
      }

  module _ (l : i < length line) (room : length line ≤ length class₀) (no : get_or line i 0 ≡ 92 → ⊥) {end : ℕ} (is : end ≡ quote k) where
    pub inner_ends : get_or line i 0 ≡ end → InnerRead line a k class₀ (i + 1) (set class i 1)
    inner_ends f =
        record {
          moved = moved_then p.moved (moved_one line i class 1 l);
          scanned = λ q d. then_one Class.Str (Mode.Interp q d) (p.scanned q d) l room (inner_end (drop i line) q d k (starts_not line i 92 [] l no) (quote_there line i end k l is f));
        }

    pub inner_goes_on : (get_or line i 0 ≡ end → ⊥) → InInner line a k class₀ (set class i 1) (i + 1)
    inner_goes_on f =
        record {
          moved = moved_then p.moved (moved_one line i class 1 l);
          scanned = λ q d. then_one Class.Str (Mode.Inner q d k) (p.scanned q d) l room (inner_plain (drop i line) q d k (starts_not line i 92 [] l no) (quote_not line i end k l is f));
        }

  pub inner_stops : length line ≤ i → InnerRead line a k class₀ i class
  inner_stops l = record { moved = p.moved; scanned = λ q d. scanned_last (fresh (Mode.Interp q d)) (p.scanned q d) l refl }

-- inside a `${`, at a depth of d braces
pub record InInterp (line : List ℕ) (a : ℕ) (class₀ class : List ℕ) (i d : ℕ) : Type 0 where
  pub moved : Moved line a class₀ i class
  pub few : d + a ≤ i + 1
  pub scanned : (q : Bool) → Scanned line (fresh (Mode.Interp q 1)) a class₀ (fresh (Mode.Interp q d)) i class

pub interp_begins : (line : List ℕ) (a : ℕ) (class : List ℕ) → a ≤ length line → InInterp line a class class a 1
interp_begins line a class l = record { moved = moved_start line a class l; few = omega arith; scanned = λ q. scanned_start line (fresh (Mode.Interp q 1)) a class l }

module _ {line : List ℕ} {a : ℕ} {class₀ class : List ℕ} {i d : ℕ} (p : InInterp line a class₀ class i d) where
  pub interp_escapes : {e : ℕ} {after : List ℕ} → i < length line → get_or line i 0 ≡ 92 → PairRead line i 1 class e after → InInterp line a class₀ after e d
  interp_escapes l f r =
      record {
        moved = moved_pair p.moved r.moved;
        few = omega (arith, p.few, r.moved.on);
        scanned = λ q. scanned_then (p.scanned q) (r.scanned (Mode.Interp q d) (Mode.Interp q d) Class.Str refl (interp_escape (drop i line) q d (starts_is line i 92 l f)));
      }

  module _ (l : i < length line) (room : length line ≤ length class₀) (n92 : get_or line i 0 ≡ 92 → ⊥) where
    not92 : false ≡ at (drop i line) "\\"
    not92 = starts_not line i 92 [] l n92

    pub interp_quotes : (k : Bool) (e : ℕ) (after : List ℕ) → ((q : Bool) → mark_at (Mode.Interp q d) (drop i line) ≡ one Class.Str (Mode.Inner q d k)) → InnerRead line (i + 1) k (set class i 1) e after → InInterp line a class₀ after e d
    interp_quotes k e after f r =
        record {
          moved = moved_then (moved_then p.moved (moved_one line i class 1 l)) r.moved;
          few = omega (arith, p.few, r.moved.on);
          scanned = λ q. scanned_then (then_one Class.Str (Mode.Inner q d k) (p.scanned q) l room (f q)) (r.scanned q d);
        }

    pub interp_doubles : {e : ℕ} {after : List ℕ} → get_or line i 0 ≡ 34 → InnerRead line (i + 1) true (set class i 1) e after → InInterp line a class₀ after e d
    interp_doubles {e} {after} f r = interp_quotes true e after (λ q. interp_double (drop i line) q d not92 (starts_is line i 34 l f)) r

    module _ (n34 : get_or line i 0 ≡ 34 → ⊥) where
      not34 : false ≡ at (drop i line) "\""
      not34 = starts_not line i 34 [] l n34

      pub interp_singles : {e : ℕ} {after : List ℕ} → get_or line i 0 ≡ 39 → InnerRead line (i + 1) false (set class i 1) e after → InInterp line a class₀ after e d
      interp_singles {e} {after} f r = interp_quotes false e after (λ q. interp_single (drop i line) q d not92 not34 (starts_is line i 39 l f)) r

      module _ (n39 : get_or line i 0 ≡ 39 → ⊥) where
        not39 : false ≡ at (drop i line) "'"
        not39 = starts_not line i 39 [] l n39

        -- over one byte, to a depth of c braces
        over : (c : ℕ) → c ≤ d + 1 → ((q : Bool) → mark_at (Mode.Interp q d) (drop i line) ≡ one Class.Str (Mode.Interp q c)) → InInterp line a class₀ (set class i 1) (i + 1) c
        over c h f =
            record {
              moved = moved_then p.moved (moved_one line i class 1 l);
              few = omega (arith, p.few);
              scanned = λ q. then_one Class.Str (Mode.Interp q c) (p.scanned q) l room (f q);
            }

        pub interp_opens : get_or line i 0 ≡ 123 → InInterp line a class₀ (set class i 1) (i + 1) (d + 1)
        interp_opens f = over (d + 1) (omega arith) (λ q. interp_open (drop i line) q d not92 not34 not39 (starts_is line i 123 l f))

        module _ (n123 : get_or line i 0 ≡ 123 → ⊥) where
          not123 : false ≡ at (drop i line) "{"
          not123 = starts_not line i 123 [] l n123

          pub interp_ends : get_or line i 0 ≡ 125 → d ≤ 1 → InterpRead line a class₀ (i + 1) (set class i 1)
          interp_ends f h =
              record {
                moved = moved_then p.moved (moved_one line i class 1 l);
                scanned = λ q. then_one Class.Str (Mode.Quoted q) (p.scanned q) l room (interp_end (drop i line) q d not92 not34 not39 not123 (starts_is line i 125 l f) h);
              }

          pub interp_closes : get_or line i 0 ≡ 125 → 1 < d → InInterp line a class₀ (set class i 1) (i + 1) (d - 1)
          interp_closes f h = over (d - 1) (omega arith) (λ q. interp_close (drop i line) q d not92 not34 not39 not123 (starts_is line i 125 l f) h)

          pub interp_goes_on : (get_or line i 0 ≡ 125 → ⊥) → InInterp line a class₀ (set class i 1) (i + 1) d
          interp_goes_on f = over d (omega arith) (λ q. interp_plain (drop i line) q d not92 not34 not39 not123 (starts_not line i 125 [] l f))

  pub interp_stops : length line ≤ i → InterpRead line a class₀ i class
  interp_stops l = record { moved = p.moved; scanned = λ q. scanned_last (fresh (Mode.Quoted q)) (p.scanned q) l refl }

-- at a `$` in a string
module _ (line : List ℕ) (i : ℕ) (class : List ℕ) (l : i < length line) (room : length line ≤ length class) (f : get_or line i 0 ≡ 36) where
  dollar_92 : false ≡ at (drop i line) "\\"
  dollar_92 = starts_other line i 92 [] 36 l f (λ h. omega arith)

  pub dollar_opens : {j e : ℕ} {y z : List ℕ} → true ≡ starts_with (drop (i + 1) line) (123 ∷ []) → PairRead line i 1 class j y → InterpRead line j y e z → DollarRead line i class e z
  dollar_opens h p r =
      record {
        moved = moved_then p.moved r.moved;
        scanned = λ q. scanned_then (p.scanned (Mode.Quoted q) (Mode.Interp q 1) Class.Str refl (quoted_interp (drop i line) q dollar_92 (starts_more line i 36 (123 ∷ []) l f h))) (r.scanned q);
      }

  pub dollar_passes : false ≡ starts_with (drop (i + 1) line) (123 ∷ []) → DollarRead line i class (i + 1) (set class i 1)
  dollar_passes h =
      let m = moved_one line i class 1 l in
      record {
        moved = record { on = omega arith; within = m.within; as_long = m.as_long };
        scanned = λ q. scanned_one line (Mode.Quoted q) i class Class.Str (Mode.Quoted q) 1 l room (quoted_plain (drop i line) q dollar_92 (starts_more line i 36 (123 ∷ []) l f h) (no_quote q)) refl;
      }
    where
      no_quote : (q : Bool) → false ≡ at_quote (drop i line) q
      no_quote true = starts_other line i 34 [] 36 l f (λ h. omega arith)
      no_quote false = starts_other line i 39 [] 36 l f (λ h. omega arith)

-- in a string
pub record InQuoted (line : List ℕ) (a : ℕ) (q : Bool) (class₀ class : List ℕ) (i : ℕ) : Type 0 where
  pub scanned : Scanned line (fresh (Mode.Quoted q)) a class₀ (fresh (Mode.Quoted q)) i class

pub quoted_begins : (line : List ℕ) (a : ℕ) (q : Bool) (class : List ℕ) → a ≤ length line → InQuoted line a q class class a
quoted_begins line a q class l = record { scanned = scanned_start line (fresh (Mode.Quoted q)) a class l }

module _ {line : List ℕ} {a : ℕ} {q : Bool} {class₀ class : List ℕ} {i : ℕ} (p : InQuoted line a q class₀ class i) where
  pub quoted_escapes : {e : ℕ} {after : List ℕ} → i < length line → get_or line i 0 ≡ 92 → PairRead line i 1 class e after → InQuoted line a q class₀ after e
  quoted_escapes l f r = record { scanned = scanned_then p.scanned (r.scanned (Mode.Quoted q) (Mode.Quoted q) Class.Str refl (quoted_escape (drop i line) q (starts_is line i 92 l f))) }

  pub quoted_plainly : {e : ℕ} {after : List ℕ} → PlainString line i class e after → InQuoted line a q class₀ after e
  quoted_plainly r = record { scanned = scanned_then p.scanned (r.scanned q) }

  module _ (l : i < length line) (room : length line ≤ length class₀) (n92 : get_or line i 0 ≡ 92 → ⊥) (n36 : get_or line i 0 ≡ 36 → ⊥) {end : ℕ} (is : end ≡ quote q) where
    pub quoted_ends : get_or line i 0 ≡ end → Scanned line (fresh (Mode.Quoted q)) a class₀ (fresh Mode.Code) (i + 1) (set class i 1)
    quoted_ends f = then_one Class.Str Mode.Code p.scanned l room (quoted_end (drop i line) q (starts_not line i 92 [] l n92) (starts_not line i 36 (123 ∷ []) l n36) (quote_there line i end q l is f))

    pub quoted_goes_on : (get_or line i 0 ≡ end → ⊥) → InQuoted line a q class₀ (set class i 1) (i + 1)
    quoted_goes_on f = record { scanned = then_one Class.Str (Mode.Quoted q) p.scanned l room (quoted_plain (drop i line) q (starts_not line i 92 [] l n92) (starts_not line i 36 (123 ∷ []) l n36) (quote_not line i end q l is f)) }

  pub quoted_stops : length line ≤ i → Scanned line (fresh (Mode.Quoted q)) a class₀ (fresh Mode.Code) i class
  quoted_stops l = scanned_last (fresh Mode.Code) p.scanned l refl

-- a byte that is the other quote is not this one
pub other_quote : (b end other : ℕ) (q : Bool) → end ≡ quote q → other ≡ quote (not q) → b ≡ other → b ≡ end → ⊥
other_quote b end other true e f g h = omega arith
other_quote b end other false e f g h = omega arith

not_quote : (b : ℕ) (q : Bool) → (b ≡ 34 → ⊥) → (b ≡ 39 → ⊥) → b ≡ quote q → ⊥
not_quote b true x y e = x e
not_quote b false x y e = y e

plain_at : (line : List ℕ) (i : ℕ) (q : Bool) → i < length line → stops_string (get_or line i 0) ≡ false → mark_at (Mode.Quoted q) (drop i line) ≡ one Class.Str (Mode.Quoted q)
unfolding stops_string
plain_at line i q l h =
    let b : ℕ = get_or line i 0 in
    let n = none_of_four (eqb b 92) (eqb b 34) (eqb b 39) (eqb b 36) h in
    quoted_plain (drop i line) q (starts_not line i 92 [] l (eqb-false b 92 n.0)) (starts_not line i 36 (123 ∷ []) l (eqb-false b 36 n.3))
    (quote_not line i (quote q) q l refl (not_quote b q (eqb-false b 34 n.1) (eqb-false b 39 n.2)))

-- bytes of a string at which nothing starts or ends
pub string_run : (line : List ℕ) (a e : ℕ) (d z : List ℕ) → length line ≤ length d → FirstFrom (λ j. stops_string (get_or line j 0)) a (length line) e
    → Marked 1 a e (length line) d z → PlainString line a d e z
string_run line a e d z room f m =
    record {
      moved = record { on = f.from; within = f.within; as_long = m.as_long };
      scanned = λ q. run_marked line (Mode.Quoted q) Class.Str a e d z f.from f.within room (λ j h k. plain_at line j q (omega (arith, f.within)) (f.none j h k)) m;
    }
