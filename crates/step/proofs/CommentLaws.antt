-- A `//` comment goes on to the line's end, so that a line whose last class is another has none.
use Prim.Native.Nat.{ℕ, zero, suc, ◌+◌, ◌-◌, ◌≤◌}
use native.Mathlib.Omega.{arith}
use mathlib.Core.Bool.{Bool, true, false, false≢true}
use mathlib.Core.List.{List, [], ◌∷◌}
use mathlib.Core.Path.{◌≡◌, refl, sym, ap, ◌∙◌, subst}
use lib.ListN.{length, take, drop, get_or, drop_of_length-le}
use Rattle.utf8.specs.Unicode.{chars, decode, WellFormed}
use Rattle.rules.specs.Basics.{choose, starts_with}
use Rattle.rules.specs.Scan.{long, one, in_code, in_quoted, in_interp, in_inner, in_block, in_prefab, mark_at, next_of, next, classes_of, scan, begin, classify, is_line_comment}
use Rattle.rules.specs.ClassBytes.{class_byte, class_bytes}
use Rattle.rules.specs.Words.{is_marker_text}
use Rattle.rules.specs.declared.Carry.{Carry}
use Rattle.rules.specs.declared.Class.{Class}
use Rattle.rules.specs.declared.Mark.{Mark}
use Rattle.rules.specs.declared.Mode.{Mode}
use Rattle.rules.proofs.Choose.{choose_case}
use Rattle.rules.proofs.CellsLaws.{class_of_byte, length_class_bytes, length_classify}
use Rattle.scan.specs.CodeEnd.{code_length}
use Rattle.std.specs.Prelude.{None}
use Rattle.step.specs.Going.{marker_in, EndsOutside}
use Rattle.step.proofs.MarkerLaws.{marker_none}

record Regular (t : Mark) : Type 0 where
  is : t.class ≡ Class.LineComment → t ≡ one Class.LineComment Mode.Line

regular_of : (n : ℕ) (k : Class) (m : Mode) → (class_byte k ≡ 2 → ⊥) → Regular (long n k m)
regular_of n k m q = record { is = λ h. absurd (q (ap class_byte h)) }

regular_mark : (m : Mode) (s : List ℕ) → Regular (mark_at m s)
unfolding in_code in_quoted in_interp in_inner in_block in_prefab
regular_mark Mode.Code s =
    (choose_case Regular (λ h. (regular_of 1 Class.Code (Mode.Code) (λ z. absurd (omega arith))))
    (λ h. (choose_case Regular (λ h. (regular_of 0 Class.Str (Mode.Quoted true) (λ z. absurd (omega arith))))
    (λ h. (choose_case Regular (λ h. (regular_of 0 Class.Str (Mode.Quoted false) (λ z. absurd (omega arith))))
    (λ h. (choose_case Regular (λ h. record { is = λ z. refl })
    (λ h. (choose_case Regular (λ h. (regular_of 1 Class.BlockComment (Mode.Block 1) (λ z. absurd (omega arith))))
    (λ h. (choose_case Regular (λ h. (regular_of 3 Class.Prefab (Mode.Prefab) (λ z. absurd (omega arith))))
    (λ h. (regular_of 0 Class.Code (Mode.Code) (λ z. absurd (omega arith)))))))))))))))
regular_mark (Mode.Quoted q) s =
    (choose_case Regular (λ h. (regular_of 1 Class.Str (Mode.Quoted q) (λ z. absurd (omega arith))))
    (λ h. (choose_case Regular (λ h. (regular_of 1 Class.Str (Mode.Interp q 1) (λ z. absurd (omega arith))))
    (λ h. (choose_case Regular (λ h. (regular_of 0 Class.Str (Mode.Code) (λ z. absurd (omega arith))))
    (λ h. (regular_of 0 Class.Str (Mode.Quoted q) (λ z. absurd (omega arith)))))))))
regular_mark (Mode.Interp q d) s =
    (choose_case Regular (λ h. (regular_of 1 Class.Str (Mode.Interp q d) (λ z. absurd (omega arith))))
    (λ h. (choose_case Regular (λ h. (regular_of 0 Class.Str (Mode.Inner q d true) (λ z. absurd (omega arith))))
    (λ h. (choose_case Regular (λ h. (regular_of 0 Class.Str (Mode.Inner q d false) (λ z. absurd (omega arith))))
    (λ h. (choose_case Regular (λ h. (regular_of 0 Class.Str (Mode.Interp q (d + 1)) (λ z. absurd (omega arith))))
    (λ h. (choose_case Regular (λ h. (choose_case Regular (λ h. (regular_of 0 Class.Str (Mode.Quoted q) (λ z. absurd (omega arith))))
    (λ h. (regular_of 0 Class.Str (Mode.Interp q (d - 1)) (λ z. absurd (omega arith))))))
    (λ h. (regular_of 0 Class.Str (Mode.Interp q d) (λ z. absurd (omega arith)))))))))))))
regular_mark (Mode.Inner q d k) s =
    (choose_case Regular (λ h. (regular_of 1 Class.Str (Mode.Inner q d k) (λ z. absurd (omega arith))))
    (λ h. (choose_case Regular (λ h. (regular_of 0 Class.Str (Mode.Interp q d) (λ z. absurd (omega arith))))
    (λ h. (regular_of 0 Class.Str (Mode.Inner q d k) (λ z. absurd (omega arith)))))))
regular_mark Mode.Line s = record { is = λ z. refl }
regular_mark (Mode.Block d) s =
    (choose_case Regular (λ h. (regular_of 1 Class.BlockComment (Mode.Block (d + 1)) (λ z. absurd (omega arith))))
    (λ h. (choose_case Regular (λ h. (choose_case Regular (λ h. (regular_of 1 Class.BlockComment (Mode.Code) (λ z. absurd (omega arith))))
    (λ h. (regular_of 1 Class.BlockComment (Mode.Block (d - 1)) (λ z. absurd (omega arith))))))
    (λ h. (regular_of 0 Class.BlockComment (Mode.Block d) (λ z. absurd (omega arith)))))))
regular_mark Mode.Prefab s =
    (choose_case Regular (λ h. (regular_of 2 Class.Prefab (Mode.Code) (λ z. absurd (omega arith))))
    (λ h. (regular_of 0 Class.Prefab (Mode.Prefab) (λ z. absurd (omega arith)))))

regular_next : (n : ℕ) (k : Class) (m : Mode) (s : List ℕ) → Regular (long n k m) → Regular (next_of n k m s)
regular_next zero k m s r = regular_mark m s
regular_next (suc n) k m s r = record { is = λ h. absurd (omega (arith, ap (λ (t : Mark). t.more) (r.is h))) }

in_comment_law : (s : List ℕ) (c : ℕ) → get_or (class_bytes (scan (one Class.LineComment Mode.Line) (c ∷ s))) (length s) 0 ≡ 2
unfolding scan classes_of
in_comment_law [] c = refl
in_comment_law (d ∷ s) c = in_comment_law s d

comment_class : (k : Class) → is_line_comment k ≡ true → k ≡ Class.LineComment
comment_class Class.Code h = absurd (false≢true h)
comment_class Class.Str h = absurd (false≢true h)
comment_class Class.LineComment h = refl
comment_class Class.BlockComment h = absurd (false≢true h)
comment_class Class.Prefab h = absurd (false≢true h)

first_other : (u : Mark) (ks : List ℕ) → is_line_comment u.class ≡ false → code_length (class_byte u.class ∷ ks) ≡ suc (code_length ks)
unfolding code_length choose
first_other u ks h = rw (class_of_byte u.class, h)

-- the first class is no comment's, since the last isn't
first_no : (s : List ℕ) (c : ℕ) (t : Mark) → Regular t → (get_or (class_bytes (scan t (c ∷ s))) (length s) 0 ≡ 2 → ⊥)
    → is_line_comment (next t (c ∷ s)).class ≡ false
unfolding scan classes_of
first_no s c t r q = go (is_line_comment (next t (c ∷ s)).class) refl
  where
    go : (b : Bool) → is_line_comment (next t (c ∷ s)).class ≡ b → b ≡ false
    go false h = refl
    go true h =
        let e = (regular_next t.more t.class t.mode (c ∷ s) r).is (comment_class _ h) in
        absurd (q (ap (λ (u : Mark). get_or (class_byte u.class ∷ class_bytes (scan u s)) (length s) 0) e ∙ in_comment_law s c))

outside : (s : List ℕ) (c : ℕ) (t : Mark) → Regular t → (get_or (class_bytes (scan t (c ∷ s))) (length s) 0 ≡ 2 → ⊥)
    → code_length (class_bytes (scan t (c ∷ s))) ≡ suc (length s)
unfolding scan classes_of code_length
outside [] c t r q = first_other (next t (c ∷ [])) [] (first_no [] c t r q)
outside (d ∷ s) c t r q =
    first_other (next t (c ∷ d ∷ s)) (class_bytes (scan (next t (c ∷ d ∷ s)) (d ∷ s))) (first_no (d ∷ s) c t r q)
    ∙ ap suc (outside s d (next t (c ∷ d ∷ s)) (regular_next t.more t.class t.mode (c ∷ d ∷ s) r) q)

code_whole : (line : List ℕ) → (length line ≡ 0 → ⊥) → (get_or (class_bytes (classify Carry.Code line)) (length line - 1) 0 ≡ 2 → ⊥)
    → code_length (class_bytes (classify Carry.Code line)) ≡ length line
unfolding classify
code_whole [] n q = absurd (n refl)
code_whole (c ∷ s) n q =
    outside s c (begin Carry.Code) (regular_of 0 Class.Code Mode.Code (λ z. absurd (omega arith)))
    (subst (λ (i : ℕ). get_or (class_bytes (scan (begin Carry.Code) (c ∷ s))) i 0 ≡ 2 → ⊥) (omega arith) q)

nothing_marks : is_marker_text (decode []) ≡ false
unfolding is_marker_text starts_with chars
nothing_marks = refl

pub outside_none : (line class : List ℕ) (r : Bool) → WellFormed line → class ≡ class_bytes (classify Carry.Code line) → EndsOutside class r → r ≡ true
    → None ≡ marker_in (decode line)
outside_none line class r well k o t =
    let n = o.some t in
    let q = o.last t in
    let l : length class ≡ length line = ap length k ∙ length_class_bytes (classify Carry.Code line) ∙ length_classify Carry.Code line in
    let e : code_length class ≡ length line = ap code_length k ∙ code_whole line (rw l at n) (subst (λ (ks : List ℕ). get_or ks (length line - 1) 0 ≡ 2 → ⊥) k (rw l at q)) in
    let w : length line ≤ code_length class = omega (arith, e) in
    let d : drop (code_length class) line ≡ [] = drop_of_length-le line w in
    marker_none line class (code_length class) well k refl false (sym (rw d (ap (λ (x : List ℕ). is_marker_text (decode x)) (take_nil (length line - code_length class)) ∙ nothing_marks))) refl
  where
    take_nil : (m : ℕ) → take {A = ℕ} m [] ≡ []
    take_nil zero = refl
    take_nil (suc m) = refl
