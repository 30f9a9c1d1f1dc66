-- A line that is spaced already: spacing goes over it and leaves it as it is.
use Prim.Native.Nat.{ℕ, ◌+◌, ◌-◌, ◌≤◌, ◌<◌, zero-le}
use mathlib.Core.Bool.{Bool, true, false, ◌&&◌, and-false}
use mathlib.Core.List.{List, [], ◌∷◌, ◌++◌, foldl}
use mathlib.Core.Path.{◌≡◌, refl, sym, ap, ◌∙◌}
use native.Mathlib.Numerals.{add-one}
use native.Mathlib.Omega.{arith}
use borrow.Author.Tests.{ne_eqb, eqb-true}
use lib.Dec.{eqb}
use lib.ListN.{length, get_or, take, drop}
use lib.Seq.{take-suc, take_all}
use Rattle.utf8.proofs.Tests.{by_test}
use Rattle.rules.specs.Basics.{choose, is_blank, is_closer}
use Rattle.rules.specs.Scan.{Cell, cell, is_code}
use Rattle.rules.specs.ClassBytes.{class_of, cells_of, cell_at}
use Rattle.rules.specs.Spacing.{Spaced, spaced, trim_blanks, put_plain, put_after_comma, put_at, space_step, normalize_spacing}
use Rattle.rules.specs.declared.Gap.{Gap}
use Rattle.rules.proofs.Choose.{choose_true, choose_false}
use Rattle.rules.proofs.CellsLaws.{cells_at, cells_end}
use Rattle.spacing.specs.Respaced.{respaced_from, InCode, Kept, NoBlank, Keeping, Unchanged}
use Rattle.basics.proofs.ClassPicks.{code_other}
use Rattle.spacing.proofs.SpacingLaws.{trim_snoc, plain_char}

-- the same with what the last character was, and any text before i
abbrev from : List ℕ → List ℕ → Gap → List ℕ → ℕ → List ℕ
from line ks g o i = (foldl space_step (spaced o g) (cells_of (drop i line) (drop i ks))).out

take_more : (line : List ℕ) (i : ℕ) → i < length line → take i line ++ (get_or line i 0 ∷ []) ≡ take (i + 1) line
take_more line i h = rw (add-one i, take-suc line i 0)

from_end : (line ks : List ℕ) (g : Gap) (o : List ℕ) (i : ℕ) → length line ≤ i → from line ks g o i ≡ o
from_end line ks g o i h = ap (λ (xs : List Cell). (foldl space_step (spaced o g) xs).out) (cells_end line ks i h)

from_next : (line ks : List ℕ) (g : Gap) (o : List ℕ) (i : ℕ) → i < length line → length line ≤ length ks
    → from line ks g o i ≡ (foldl space_step (put_at g o (cell_at line ks i)) (cells_of (drop (i + 1) line) (drop (i + 1) ks))).out
from_next line ks g o i h l = ap (λ (xs : List Cell). (foldl space_step (spaced o g) xs).out) (cells_at line ks i h l)

-- what one character comes to
from_as : (line ks : List ℕ) (g h : Gap) (o p : List ℕ) (i : ℕ) → i < length line → length line ≤ length ks
    → put_at g o (cell_at line ks i) ≡ spaced p h → from line ks g o i ≡ from line ks h p (i + 1)
from_as line ks g h o p i k l e = from_next line ks g o i k l ∙ ap (λ (t : Spaced). (foldl space_step t (cells_of (drop (i + 1) line) (drop (i + 1) ks))).out) e

-- two states that the next character does not tell apart
from_like : (line ks : List ℕ) (g h : Gap) (o p : List ℕ) (i : ℕ) → i < length line → length line ≤ length ks
    → put_at g o (cell_at line ks i) ≡ put_at h p (cell_at line ks i) → from line ks g o i ≡ from line ks h p i
from_like line ks g h o p i k l e =
    from_next line ks g o i k l ∙ ap (λ (t : Spaced). (foldl space_step t (cells_of (drop (i + 1) line) (drop (i + 1) ks))).out) e ∙ sym (from_next line ks h p i k l)

-- ---- one character, by what it is

plain_other : (o : List ℕ) (c k : ℕ) → (k ≡ 0 → ⊥) → put_at Gap.Nothing o (cell c (class_of k)) ≡ spaced (o ++ (c ∷ [])) Gap.Nothing
unfolding put_at put_plain
plain_other o c k h = choose_false _ _ _ (code_other k h)

plain_space : (o : List ℕ) → put_at Gap.Nothing o (cell 32 (class_of 0)) ≡ spaced (o ++ (32 ∷ [])) Gap.Space
unfolding put_at put_plain choose
plain_space o = refl

plain_comma : (o : List ℕ) → put_at Gap.Nothing o (cell 44 (class_of 0)) ≡ spaced (trim_blanks o ++ (44 ∷ [])) Gap.Comma
unfolding put_at put_plain choose
plain_comma o = refl

plain_escape : (o : List ℕ) → put_at Gap.Nothing o (cell 92 (class_of 0)) ≡ spaced (o ++ (92 ∷ [])) Gap.Escape
unfolding put_at put_plain choose
plain_escape o = refl

after_escape : (o : List ℕ) (x : Cell) → put_at Gap.Escape o x ≡ spaced (o ++ (x.ch ∷ [])) Gap.Nothing
unfolding put_at
after_escape o x = refl

after_space : (o : List ℕ) (c k : ℕ) → (c ≡ 32 → ⊥) → put_at Gap.Space o (cell c (class_of k)) ≡ put_at Gap.Nothing o (cell c (class_of k))
unfolding put_at
after_space o c k h = choose_false _ _ _ (ne_eqb c 32 h)

closer_blank : (c : ℕ) → is_closer c ≡ true → is_blank c ≡ false
closer_blank c h = by_test (eqb c 32) (λ e. let z : false ≡ true = rw (eqb-true c 32 e) at h in cc) (λ e. by_test (eqb c 9) (λ f. let z : false ≡ true = rw (eqb-true c 9 f) at h in cc) (λ f. rw (e, f)))

after_comma_closer : (o : List ℕ) (c k : ℕ) → is_closer c ≡ true → put_at Gap.Comma o (cell c (class_of k)) ≡ put_at Gap.Nothing o (cell c (class_of k))
unfolding put_at put_after_comma
after_comma_closer o c k h = choose_false _ _ _ (rw (closer_blank c h) (and-false (is_code (class_of k)))) ∙ choose_true _ _ _ h

after_comma_blank : (o : List ℕ) → put_at Gap.Comma o (cell 32 (class_of 0)) ≡ spaced o Gap.Comma
unfolding put_at put_after_comma choose
after_comma_blank o = refl

after_comma_other : (o : List ℕ) (c k : ℕ) → (is_code (class_of k) && is_blank c) ≡ false → is_closer c ≡ false
    → put_at Gap.Comma o (cell c (class_of k)) ≡ put_at Gap.Nothing (o ++ (32 ∷ [])) (cell c (class_of k))
unfolding put_at put_after_comma
after_comma_other o c k p q = choose_false _ _ _ p ∙ choose_false _ _ _ q

-- ---- the answers

module _ {line ks : List ℕ} {i c : ℕ} (w : InCode line ks i c) where
  -- what the character of code comes to
  code_as : (h : Gap) (p : List ℕ) → put_at Gap.Nothing (take i line) (cell c (class_of 0)) ≡ spaced p h → respaced_from line ks i ≡ from line ks h p (i + 1)
  unfolding respaced_from
  code_as h p e = from_as line ks Gap.Nothing h (take i line) p i w.within w.classes (rw (w.char, w.code) e)

  here : take i line ++ (c ∷ []) ≡ take (i + 1) line
  here = rw (← w.char) (take_more line i w.within)

module _ (line ks : List ℕ) (i : ℕ) (pre : (i < length line) × (length line ≤ length ks)) where
  one : put_at Gap.Nothing (take i line) (cell_at line ks i) ≡ spaced (take i line ++ (get_or line i 0 ∷ [])) Gap.Nothing → Kept line ks i 1
  unfolding respaced_from
  one e =
      record {
        some = omega arith;
        fits = omega (arith, pre.0);
        kept = from_as line ks Gap.Nothing Gap.Nothing (take i line) (take (i + 1) line) i pre.0 pre.1 (rw (← take_more line i pre.0) e);
      }

  pub kept_other : (get_or ks i 0 ≡ 0 → ⊥) → Kept line ks i 1
  kept_other h = one (plain_other (take i line) (get_or line i 0) (get_or ks i 0) h)

  pub kept_char : (get_or line i 0 ≡ 32 → ⊥) → (get_or line i 0 ≡ 44 → ⊥) → (get_or line i 0 ≡ 92 → ⊥) → Kept line ks i 1
  kept_char p q r = one (plain_char (take i line) (get_or line i 0) (get_or ks i 0) p q r)

module _ (line ks : List ℕ) (i : ℕ) (w : InCode line ks i 32) where
  pub space_end : length line ≤ i + 1 → Kept line ks i 1
  unfolding respaced_from
  space_end h =
      record {
        some = omega arith;
        fits = omega (arith, w.within);
        kept = code_as w Gap.Space (take (i + 1) line) (plain_space (take i line) ∙ rw (here w)) ∙ from_end line ks Gap.Space (take (i + 1) line) (i + 1) h
            ∙ sym (from_end line ks Gap.Nothing (take (i + 1) line) (i + 1) h);
      }

  pub space_then : i + 1 < length line → (get_or line (i + 1) 0 ≡ 32 → ⊥) → Kept line ks i 1
  unfolding respaced_from
  space_then h n =
      record {
        some = omega arith;
        fits = omega (arith, w.within);
        kept = code_as w Gap.Space (take (i + 1) line) (plain_space (take i line) ∙ rw (here w))
            ∙ from_like line ks Gap.Space Gap.Nothing (take (i + 1) line) (take (i + 1) line) (i + 1) h w.classes (after_space (take (i + 1) line) (get_or line (i + 1) 0) (get_or ks (i + 1) 0) n);
      }

module _ (line ks : List ℕ) (i : ℕ) (w : InCode line ks i 92) where
  pub pair_end : length line ≤ i + 1 → Kept line ks i 1
  unfolding respaced_from
  pair_end h =
      record {
        some = omega arith;
        fits = omega (arith, w.within);
        kept = code_as w Gap.Escape (take (i + 1) line) (plain_escape (take i line) ∙ rw (here w)) ∙ from_end line ks Gap.Escape (take (i + 1) line) (i + 1) h
            ∙ sym (from_end line ks Gap.Nothing (take (i + 1) line) (i + 1) h);
      }

  pub pair_then : i + 1 < length line → Kept line ks i 2
  unfolding respaced_from
  pair_then h =
      let e : i + 1 + 1 ≡ i + 2 = omega arith in
      record {
        some = omega arith;
        fits = omega arith;
        kept = code_as w Gap.Escape (take (i + 1) line) (plain_escape (take i line) ∙ rw (here w))
            ∙ from_as line ks Gap.Escape Gap.Nothing (take (i + 1) line) (take (i + 1 + 1) line) (i + 1) h w.classes (after_escape (take (i + 1) line) (cell_at line ks (i + 1)) ∙ rw (take_more line (i + 1) h))
            ∙ rw e;
      }

pub blank_first : (line : List ℕ) (i : ℕ) (r : Bool) → i ≡ 0 → NoBlank line i r
unfolding trim_blanks
blank_first line i r e = record { none = λ q. rw e }

pub blank_last : (line : List ℕ) (i : ℕ) (r : Bool) → i ≤ length line → (i ≡ 0 → ⊥) → r ≡ is_blank (get_or line (i - 1) 0) → NoBlank line i r
blank_last line i r h n e =
    let j : ℕ = i - 1 in
    let m : i ≡ j + 1 = omega arith in
    let t : take i line ≡ take j line ++ (get_or line j 0 ∷ []) = ap (λ (n : ℕ). take n line) m ∙ sym (take_more line j (omega arith)) in
    record { none = λ q. rw t (trim_snoc (take j line) (get_or line j 0) ∙ choose_false _ _ _ (sym e ∙ q)) }

module _ (line ks : List ℕ) (i : ℕ) (w : InCode line ks i 44) (b : NoBlank line i false) where
  comma : respaced_from line ks i ≡ from line ks Gap.Comma (take (i + 1) line) (i + 1)
  comma = code_as w Gap.Comma (take (i + 1) line) (plain_comma (take i line) ∙ rw (b.none refl, here w))

  pub comma_end : length line ≤ i + 1 → Kept line ks i 1
  unfolding respaced_from
  comma_end h =
      record {
        some = omega arith;
        fits = omega (arith, w.within);
        kept = comma ∙ from_end line ks Gap.Comma (take (i + 1) line) (i + 1) h ∙ sym (from_end line ks Gap.Nothing (take (i + 1) line) (i + 1) h);
      }

  pub comma_closer : (r : Bool) → i + 1 < length line → r ≡ is_closer (get_or line (i + 1) 0) → r ≡ true → Kept line ks i 1
  unfolding respaced_from
  comma_closer r h e q =
      record {
        some = omega arith;
        fits = omega (arith, w.within);
        kept = comma
            ∙ from_like line ks Gap.Comma Gap.Nothing (take (i + 1) line) (take (i + 1) line) (i + 1) h w.classes (after_comma_closer (take (i + 1) line) (get_or line (i + 1) 0) (get_or ks (i + 1) 0) (sym e ∙ q));
      }

  pub comma_gap : (r s : Bool) → InCode line ks (i + 1) 32 → i + 2 < length line
      → r ≡ (is_code (class_of (get_or ks (i + 2) 0)) && is_blank (get_or line (i + 2) 0)) → r ≡ false → s ≡ is_closer (get_or line (i + 2) 0) → s ≡ false → Kept line ks i 2
  unfolding respaced_from
  comma_gap r s v h e q f u =
      let m : i + 1 + 1 ≡ i + 2 = omega arith in
      let o = take (i + 1) line in
      let t : o ++ (32 ∷ []) ≡ take (i + 2) line = here v ∙ rw m in
      record {
        some = omega arith;
        fits = omega arith;
        kept = comma
            ∙ from_as line ks Gap.Comma Gap.Comma o o (i + 1) v.within w.classes (rw (v.char, v.code) (after_comma_blank o))
            ∙ rw m
            (from_like line ks Gap.Comma Gap.Nothing o (o ++ (32 ∷ [])) (i + 2) h w.classes (after_comma_other o (get_or line (i + 2) 0) (get_or ks (i + 2) 0) (sym e ∙ q) (sym f ∙ u))
            ∙ ap (λ (l : List ℕ). from line ks Gap.Nothing l (i + 2)) t);
      }

-- ---- the loop

pub keeping_start : (line ks : List ℕ) → Keeping line ks 0
unfolding respaced_from normalize_spacing
keeping_start line ks = record { within = zero-le; same = refl }

pub keeping_more : (line ks : List ℕ) (i n : ℕ) → Keeping line ks i → Kept line ks i n → Keeping line ks (i + n)
keeping_more line ks i n w k = record { within = k.fits; same = w.same ∙ k.kept }

pub keeping_unchanged : (line ks : List ℕ) (i : ℕ) (r : Bool) → Keeping line ks i → (r ≡ true → i ≡ length line) → Unchanged line ks r
unfolding respaced_from
keeping_unchanged line ks i r w e =
    record { yes = λ q. (let h : length line ≤ i = omega (arith, e q) in w.same ∙ from_end line ks Gap.Nothing (take i line) i h ∙ take_all i line h) }
