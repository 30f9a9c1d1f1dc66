-- The rounds that `split_operation` gives `break_first` are enough: it meets the equation of the loop "while the first
-- line is too wide, break it".
--     rounds_enough     more rounds than the first piece's length change nothing
--     loop_equation     one turn of the loop
use Prim.Native.Nat.{ℕ, zero, suc, ◌+◌, ◌≤◌, ◌<◌, ◌-◌, zero-le, suc-le-suc}
use native.Mathlib.Omega.{arith}
use native.Mathlib.Nat.{not-suc-le-zero, le_of_suc-le-suc, le_refl}
use mathlib.Core.Bool.{Bool, true, false}
use mathlib.Core.List.{List, [], ◌∷◌, ◌++◌}
use mathlib.Core.Option.{Option, none, some}
use mathlib.Core.Path.{◌≡◌, refl, sym, ap, ◌∙◌}
use lib.Dec.{eqb}
use lib.ListN.{length}
use borrow.Author.Tests.{eqb-false}
use Rattle.utf8.proofs.Trim.{length_trim}
use Rattle.rules.specs.Basics.{Pieces}
use Rattle.rules.specs.Options.{Options}
use Rattle.rules.specs.Scan.{Cell, chars_of, classify}
use Rattle.rules.specs.SplitOperation.{Ops, op_step, OpMark, marks_from, top_level_ops, at_mark, cut_before, trimmed, break_at, looser, loosest, split_once, next_break, break_on, break_first}
use Rattle.rules.specs.declared.Carry.{Carry}
use Rattle.rules.proofs.Choose.{choose_case}
use Rattle.rules.proofs.CellsLaws.{length_classify}

-- ---- a break leaves the first piece shorter

-- where the loosest strength is p + 1 and a mark has another, it is that of the rest
looser_other : (s n p : ℕ) → looser s n ≡ suc p → (s ≡ suc p → ⊥) → n ≡ suc p
unfolding looser
looser_other zero n p e h = e
looser_other (suc s) zero p e h = absurd (h e)
looser_other (suc s) (suc n) p e h = let k : ¬ (suc s ≡ suc p) = h in omega arith

length_at_mark : (b : Bool) (c : ℕ) (p : Pieces) (n : ℕ) → (b ≡ false → length p.first < n) → length (at_mark b c p).first < suc n
unfolding at_mark
length_at_mark true c p n h = suc-le-suc zero-le
length_at_mark false c p n h = suc-le-suc (h refl)

cut_shorter : (p : ℕ) (ms : List OpMark) → loosest ms ≡ suc p → length (cut_before (suc p) ms).first < length ms
unfolding loosest cut_before
cut_shorter p [] e = absurd (omega arith)
cut_shorter p (m ∷ ms) e =
    length_at_mark (eqb m.strength (suc p)) m.ch (cut_before (suc p) ms) (length ms)
    (λ h. cut_shorter p ms (looser_other m.strength (loosest ms) p e (eqb-false m.strength (suc p) h)))

-- if there is a break, its first piece has fewer than n characters
abbrev Shrinks : ℕ → Option Pieces → Type 0
Shrinks n none = Unit {0}
Shrinks n (some q) = length q.first < n

shrinks_at : (n : ℕ) (ms : List OpMark) → loosest ms ≡ n → Shrinks (length ms) (break_at n ms)
unfolding break_at trimmed
shrinks_at zero ms e = tt
shrinks_at (suc p) ms e = omega (arith, length_trim (cut_before (suc p) ms).first, cut_shorter p ms e)

length_marks : (table : List ℕ) (s : Ops) (cells : List Cell) → length (marks_from table s cells) ≡ length cells
unfolding marks_from
length_marks table s [] = refl
length_marks table s (x ∷ xs) = ap suc (length_marks table (op_step table s x (chars_of xs)).after xs)

module _ (table : List ℕ) (o : Options) (max level : ℕ) where
  shrinks_once : (cells : List Cell) → Shrinks (length cells) (split_once table cells)
  unfolding split_once top_level_ops
  shrinks_once cells =
      choose_case (Shrinks (length cells)) (λ h. tt)
      (λ h. choose_case (Shrinks (length cells)) (λ i. tt)
      (λ i. rw length_marks at (shrinks_at (loosest (top_level_ops table cells)) (top_level_ops table cells) refl)))

  shrinks_next : (first : List ℕ) → Shrinks (length first) (next_break table o max level first)
  unfolding next_break
  shrinks_next first =
      choose_case (Shrinks (length first)) (λ h. rw length_classify at (shrinks_once (classify Carry.Code first))) (λ h. tt)

  weaken : (r : Option Pieces) (m n : ℕ) → m ≤ n → Shrinks m r → Shrinks n r
  weaken none m n h s = tt
  weaken (some q) m n h s = omega arith

  -- ---- rounds

  on_same : (r : Option Pieces) (p : Pieces) (f g : Pieces → Pieces) (n : ℕ) → Shrinks (suc n) r
      → ((q : Pieces) → length q.first ≤ n → f q ≡ g q) → break_on r p f ≡ break_on r p g
  unfolding break_on
  on_same none p f g n s h = refl
  on_same (some q) p f g n s h = h (record { first = q.first; rest = q.rest ++ p.rest }) (le_of_suc-le-suc s)

  on_none : (r : Option Pieces) (p : Pieces) (f : Pieces → Pieces) → Shrinks 0 r → break_on r p f ≡ p
  unfolding break_on
  on_none none p f s = refl
  on_none (some q) p f s = absurd (not-suc-le-zero s)

  one_more : (n : ℕ) (p : Pieces) → length p.first ≤ n → break_first table o max level (suc n) p ≡ break_first table o max level n p
  unfolding break_first
  one_more zero p h =
      on_none (next_break table o max level p.first) p (break_first table o max level zero)
      (weaken (next_break table o max level p.first) (length p.first) 0 h (shrinks_next p.first))
  one_more (suc n) p h =
      on_same (next_break table o max level p.first) p (break_first table o max level (suc n)) (break_first table o max level n) n
      (weaken (next_break table o max level p.first) (length p.first) (suc n) h (shrinks_next p.first)) (one_more n)

  pub rounds_enough : (k n : ℕ) (p : Pieces) → length p.first ≤ n → break_first table o max level (n + k) p ≡ break_first table o max level n p
  rounds_enough zero n p h = ap (λ (m : ℕ). break_first table o max level m p) (omega arith)
  rounds_enough (suc k) n p h =
      ap (λ (m : ℕ). break_first table o max level m p) (omega arith) ∙ one_more (n + k) p (omega arith) ∙ rounds_enough k n p h

  -- as many rounds as the first piece has characters
  abbrev pub break_all : Pieces → Pieces
  break_all p = break_first table o max level (length p.first) p

  pub loop_equation : (p : Pieces) → break_all p ≡ break_on (next_break table o max level p.first) p break_all
  unfolding break_first
  loop_equation p =
      sym (one_more (length p.first) p (le_refl _)) ∙ fewer (next_break table o max level p.first) (shrinks_next p.first)
    where
      fewer : (r : Option Pieces) → Shrinks (length p.first) r → break_on r p (break_first table o max level (length p.first)) ≡ break_on r p break_all
      fewer none s = unfold break_on in refl
      fewer (some q) s = unfold break_on in
          (let r : Pieces = record { first = q.first; rest = q.rest ++ p.rest } in
          let e : length p.first ≡ length q.first + (length p.first - length q.first) = omega arith in
          ap (λ (m : ℕ). break_first table o max level m r) e ∙ rounds_enough (length p.first - length q.first) (length q.first) r (le_refl _))
