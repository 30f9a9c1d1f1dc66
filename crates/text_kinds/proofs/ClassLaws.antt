-- Kinds by class bytes: on ASCII bytes the character at a column is the byte there, and no `${..}` is open where no `$`
-- stands before it.
use Prim.Native.Nat.{ℕ, zero, suc, ◌+◌, ◌-◌, ◌<◌, ◌≤◌, zero-le}
use native.Mathlib.Omega.{arith}
use mathlib.Core.Bool.{Bool, true, false}
use mathlib.Core.List.{List, [], ◌∷◌}
use mathlib.Core.Logic.{◌⊎◌, inl, inr}
use mathlib.Core.Path.{◌≡◌, refl, sym, ap, subst, ◌∙◌}
use borrow.Author.Tests.{ltb-false, le-ltb}
use Rattle.std.specs.Prelude.{Some}
use lib.Dec.{T, eqb}
use lib.ListN.{length, get_or, take, length-take}
use lib.Seq.{get_or-take, take_at}
use Rattle.utf8.specs.Places.{high_at, AsciiRun}
use Rattle.utf8.proofs.Table.{not_tail_low}
use Rattle.utf8.proofs.Tests.{split}
use Rattle.rules.specs.declared.Carry.{Carry}
use Rattle.rules.specs.declared.Class.{Class}
use Rattle.rules.specs.declared.Mark.{Mark}
use Rattle.rules.specs.declared.Mode.{Mode}
use Rattle.rules.specs.declared.TextKind.{TextKind}
use Rattle.rules.specs.Basics.{choose, starts_with}
use Rattle.rules.specs.Scan.{next, next_of, mark_at, begin, scan, classify, classes_of, in_code, in_quoted, in_block, in_prefab}
use Rattle.rules.specs.ClassBytes.{class_of, class_bytes}
use Rattle.rules.specs.TextKind.{in_interpolation, class_kind, kind_number}
use Rattle.rules.proofs.CellsLaws.{class_of_byte, length_class_bytes, length_classify}
use Rattle.scan.specs.Classified.{Classified}
use Rattle.text_kind.specs.Kind.{byte_kinds}
use Rattle.text_kind.proofs.KindBytes.{bytes_first}
use Rattle.text_kind.proofs.KindMarks.{past_line}
use Rattle.text_kinds.specs.Reading.{kind_number_at, Without, dollar_at, ClassesIn, kind_of_class, Tells, KindTold}

-- ---- no `${..}` is opened but at a `$`

record Outside (t : Mark) : Type 0 where
  out : in_interpolation t.mode ≡ false

leaf : {t : Mark} → in_interpolation t.mode ≡ false → Outside t
leaf e = record { out = e }

fork : (b : Bool) (x y : Mark) → Outside x → Outside y → Outside (choose b x y)
unfolding choose
fork true x y p q = p
fork false x y p q = q

second : (b : Bool) (x y : Mark) → b ≡ false → Outside y → Outside (choose b x y)
unfolding choose
second b x y e q = rw e q

no_dollar : (b : ℕ) (s : List ℕ) → eqb b 36 ≡ false → starts_with (b ∷ s) (36 ∷ 123 ∷ []) ≡ false
unfolding starts_with
no_dollar b s e = rw e

outside_mark : (m : Mode) (b : ℕ) (s : List ℕ) → eqb b 36 ≡ false → in_interpolation m ≡ false → Outside (mark_at m (b ∷ s))
unfolding in_interpolation in_code in_quoted in_block in_prefab
outside_mark Mode.Code b s e o = fork _ _ _ (leaf refl) (fork _ _ _ (leaf refl) (fork _ _ _ (leaf refl) (fork _ _ _ (leaf refl) (fork _ _ _ (leaf refl) (fork _ _ _ (leaf refl) (leaf refl))))))
outside_mark (Mode.Quoted q) b s e o = fork _ _ _ (leaf refl) (second _ _ _ (no_dollar b s e) (fork _ _ _ (leaf refl) (leaf refl)))
outside_mark (Mode.Interp q d) b s e o = absurd (subst T o tt)
outside_mark (Mode.Inner q d k) b s e o = absurd (subst T o tt)
outside_mark Mode.Line b s e o = leaf refl
outside_mark (Mode.Block d) b s e o = fork _ _ _ (leaf refl) (fork _ _ _ (fork _ _ _ (leaf refl) (leaf refl)) (leaf refl))
outside_mark Mode.Prefab b s e o = fork _ _ _ (leaf refl) (leaf refl)

outside_next : (n : ℕ) (k : Class) (m : Mode) (b : ℕ) (s : List ℕ) → eqb b 36 ≡ false → in_interpolation m ≡ false
    → in_interpolation (next_of n k m (b ∷ s)).mode ≡ false
outside_next zero k m b s e o = (outside_mark m b s e o).out
outside_next (suc n) k m b s e o = o

outside_begin : (y : Carry) → in_interpolation (begin y).mode ≡ false
unfolding in_interpolation
outside_begin Carry.Code = refl
outside_begin (Carry.Block d) = refl
outside_begin Carry.Prefab = refl

-- ---- the kind at a column

record ByClass (t : Mark) (line : List ℕ) (c : ℕ) : Type 0 where
  inside : Bool
  is : get_or (byte_kinds t line) c TextKind.Code ≡ class_kind (class_of (get_or (class_bytes (scan t line)) c 0)) inside
  outside : Without (dollar_at line) 0 c → in_interpolation t.mode ≡ false → inside ≡ false

low : (b : ℕ) (s : List ℕ) (n : ℕ) → Without (high_at (b ∷ s)) 0 (suc n) → b < 0x80
low b s n a = let l = ltb-false 127 b (a.none 0 zero-le (omega arith)) in omega arith

by_class : (t : Mark) (line : List ℕ) (c : ℕ) → c < length line → Without (high_at line) 0 (suc c) → ByClass t line c
unfolding scan classes_of
by_class t [] c h a = absurd (omega arith)
by_class t (b ∷ s) zero h a =
    record {
      inside = in_interpolation t.mode;
      is = rw (bytes_first t b s (not_tail_low b (low b s 0 a)), class_of_byte (next t (b ∷ s)).class);
      outside = λ _ o. o;
    }
by_class t (b ∷ s) (suc c) h a =
    let r = by_class (next t (b ∷ s)) s c (omega arith) (record { none = λ j l m. a.none (suc j) zero-le (omega arith) }) in
    record {
      inside = r.inside;
      is = rw (bytes_first t b s (not_tail_low b (low b s (suc c) a))) r.is;
      outside = λ n o.
          r.outside (record { none = λ j l m. n.none (suc j) zero-le (omega arith) })
          (outside_next t.more t.class t.mode b s (n.none 0 zero-le (omega arith)) o);
    }

-- a class byte that is no string's
other_number : (b : ℕ) (x : Bool) → (b ≡ 1 → ⊥) → kind_number (kind_of_class b) ≡ kind_number (class_kind (class_of b) x)
unfolding class_kind
other_number zero x n = refl
other_number (suc zero) x n = absurd (n refl)
other_number (suc (suc zero)) x n = refl
other_number (suc (suc (suc zero))) x n = refl
other_number (suc (suc (suc (suc b)))) x n = refl

only : (k : TextKind) (n : ℕ) → kind_number k ≡ n → (j : TextKind) → Some k ≡ Some j → kind_number j ≡ n
only k n e j s = let z : k ≡ j = cc in subst (λ (x : TextKind). kind_number x ≡ n) z e

module _ {line class : List ℕ} {ascii clear : ℕ} (w : Tells line class ascii clear) (column : ℕ) where
  pub told_past : length line ≤ column → KindTold line class column (Some TextKind.Code) clear
  told_past h =
      record { told = λ k s y _. only TextKind.Code _ (ap kind_number (past_line line y column h)) k s; clear = w.clear }

  joined : (past : ℕ) → Without (dollar_at line) clear past → Without (dollar_at line) 0 past
  joined past n = record { none = λ j l m. go j m (split j clear) }
    where
      go : (j : ℕ) → j < past → (j < clear) ⊎ (clear ≤ j) → dollar_at line j ≡ false
      go j m (inl x) = w.clear.none j zero-le x
      go j m (inr x) = n.none j x m

  module _ (h : column < length line) (a : column < ascii) where
    here : (y : Carry) → ClassesIn y line class → ByClass (begin y) line column
    here y k = by_class (begin y) line column h (record { none = λ j l m. w.ascii.none j l (omega arith) })

    same_byte : (y : Carry) → ClassesIn y line class → get_or (class_bytes (scan (begin y) line)) column 0 ≡ get_or class column 0
    unfolding classify
    same_byte y k = sym (ap (λ (l : List ℕ). get_or l column 0) k.bytes) ∙ get_or-take (length line) class column 0 h

    at_column : (y : Carry) (k : ClassesIn y line class) → kind_number_at y line column ≡ kind_number (class_kind (class_of (get_or class column 0)) (here y k).inside)
    at_column y k = ap kind_number ((here y k).is ∙ ap (λ (b : ℕ). class_kind (class_of b) (here y k).inside) (same_byte y k))

    pub told_other : (kind : TextKind) → (get_or class column 0 ≡ 1 → ⊥) → kind ≡ kind_of_class (get_or class column 0)
        → KindTold line class column (Some kind) clear
    told_other kind n e =
        record {
          told = λ j s y k.
              only kind _ (ap kind_number e ∙ other_number (get_or class column 0) (here y k).inside n ∙ sym (at_column y k))
              j s;
          clear = w.clear;
        }

    pub told_string : (past : ℕ) → get_or class column 0 ≡ 1 → Without (dollar_at line) clear past → column ≤ past → KindTold line class column (Some TextKind.Str) past
    unfolding class_kind choose
    told_string past e n l =
        let z = joined past n in
        record {
          told = λ j s y k.
              let o : (here y k).inside ≡ false = (here y k).outside (record { none = λ j i m. z.none j i (omega arith) }) (outside_begin y) in
              only TextKind.Str _ (sym (at_column y k ∙ rw (e, o))) j s;
          clear = z;
        }

-- ---- the kind of a class byte

pub kind_other : (b : ℕ) → (b ≡ 1 → ⊥) → (b ≡ 2 → ⊥) → (b ≡ 3 → ⊥) → TextKind.Code ≡ kind_of_class b
unfolding class_kind
kind_other zero l m n = refl
kind_other (suc zero) l m n = absurd (l refl)
kind_other (suc (suc zero)) l m n = absurd (m refl)
kind_other (suc (suc (suc zero))) l m n = absurd (n refl)
kind_other (suc (suc (suc (suc b)))) l m n = refl

pub without_none : (p : ℕ → Bool) (at : ℕ) → Without p at at
without_none p at = record { none = λ j l m. absurd (omega arith) }

-- ---- from what `classify` and the search for ASCII bytes give

classes_long : (y : Carry) (line : List ℕ) → length (class_bytes (classify y line)) ≡ length line
classes_long y line = length_class_bytes (classify y line) ∙ length_classify y line

pub classes_in : (y : Carry) (line before after : List ℕ) (r : Carry) → Classified y line before after r → ClassesIn y line after
classes_in y line before after r c =
    record { bytes = ap (take (length line)) c.bytes ∙ take_at _ _ (length line) (classes_long y line) }

pub classes_room : {y : Carry} {line class : List ℕ} → ClassesIn y line class → length line ≤ length class
classes_room {y} {line} {class} c = omega (arith, ap length c.bytes, classes_long y line, length-take (length line) class)

pub ascii_run : (s : List ℕ) (at r : ℕ) → AsciiRun s at r → Without (high_at s) at r
ascii_run s at r a = record { none = λ j l m. go j l m }
  where
    go : (j : ℕ) → at ≤ j → j < r → high_at s j ≡ false
    go j l m =
        let e : at + (j - at) ≡ j = omega arith in
        let b : get_or s (at + (j - at)) 0 < 0x80 = a.ascii (j - at) (omega arith) in
        le-ltb 127 (get_or s j 0) (let c = rw e at b in omega arith)
