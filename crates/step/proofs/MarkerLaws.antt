-- The marker of a line, found on its bytes; a marker that stands alone is no plain else.
use Prim.Native.Nat.{ℕ, ◌-◌, ◌≤◌}
use native.Mathlib.Omega.{arith}
use mathlib.Core.Bool.{Bool, true, false, not}
use mathlib.Core.List.{List, [], ◌∷◌, ◌++◌}
use mathlib.Core.Path.{◌≡◌, refl, sym, ap, ◌∙◌, subst}
use borrow.Author.Tests.{eqb-true}
use lib.Dec.{eqb}
use lib.ListN.{length, take, drop, length-drop}
use lib.Seq.{length-take-le}
use Rattle.utf8.specs.Unicode.{Scalars, encode, decode, WellFormed, is_white, trim_start}
use Rattle.utf8.proofs.Tests.{and_left}
use Rattle.utf8.proofs.Decode.{decode_encode, decode_scalars, wf_encode, scalars_left, scalars_right}
use Rattle.buffer.proofs.RegionLaws.{part_from}
use Rattle.rules.specs.Basics.{choose, is_empty, starts_with, starts_then, keep, leading}
use Rattle.rules.specs.Scan.{Cell, chars_of, classify, before, from, code_part, comment_part, is_line_comment}
use Rattle.rules.specs.ClassBytes.{class_bytes, cells_of}
use Rattle.rules.specs.Words.{is_marker_text, is_marker, has_code}
use Rattle.rules.specs.Else.{is_plain_else}
use Rattle.rules.specs.Brackets.{leading_closers}
use Rattle.rules.specs.Demand3.{strike_white}
use Rattle.rules.specs.Spacing.{respaced}
use Rattle.rules.specs.declared.Carry.{Carry}
use Rattle.rules.proofs.Choose.{choose_true, choose_false}
use Rattle.rules.proofs.CellsLaws.{cells_bytes, chars_cells, length_class_bytes, length_classify}
use Rattle.rules.proofs.ScanBytes.{encode_cells, chars_classify, chars_encode_cells, code_part_encode, comment_part_encode}
use Rattle.rules.proofs.SpacingLaws.{like_spacing}
use Rattle.scan.specs.CodeEnd.{code_length}
use Rattle.scan.proofs.CodeEnd.{code_part_law, comment_part_law, code_length_le}
use Rattle.std.specs.Prelude.{Option, Some, None}
use Rattle.step.specs.declared.Marker.{Marker}
use Rattle.step.specs.Going.{marker_in}

-- ---- the line before its comment, and from it on

parts_whole : (xs : List Cell) → chars_of (code_part xs) ++ chars_of (comment_part xs) ≡ chars_of xs
unfolding before from chars_of choose
parts_whole [] = refl
parts_whole (x ∷ xs) = go (is_line_comment x.class) (parts_whole xs)
  where
    go : (b : Bool) → chars_of (code_part xs) ++ chars_of (comment_part xs) ≡ chars_of xs
        → chars_of (choose b [] (x ∷ code_part xs)) ++ chars_of (choose b (x ∷ xs) (comment_part xs)) ≡ x.ch ∷ chars_of xs
    go true h = refl
    go false h = ap (λ (l : List ℕ). x.ch ∷ l) h

-- the characters of both
abbrev code_chars : List ℕ → List ℕ
code_chars l = chars_of (code_part (classify Carry.Code l))

abbrev comment_chars : List ℕ → List ℕ
comment_chars l = chars_of (comment_part (classify Carry.Code l))

module _ (line class : List ℕ) (e : ℕ) (well : WellFormed line) (k : class ≡ class_bytes (classify Carry.Code line)) (c : e ≡ code_length class) where
  class_long : length class ≡ length line
  class_long = ap length k ∙ length_class_bytes (classify Carry.Code line) ∙ length_classify Carry.Code line

  pub end_within : e ≤ length line
  end_within = omega (arith, c, code_length_le class, class_long)

  line_cells : cells_of line class ≡ encode_cells (classify Carry.Code (decode line))
  line_cells = ap (cells_of line) k ∙ cells_bytes Carry.Code line well

  both : Scalars (code_chars (decode line) ++ comment_chars (decode line))
  both = subst Scalars (sym (parts_whole (classify Carry.Code (decode line)) ∙ chars_classify Carry.Code (decode line))) (decode_scalars line)

  code_bytes : take e line ≡ encode (code_chars (decode line))
  code_bytes =
      let n : length (take e line) ≤ length (take e class) = omega (arith, length-take-le e line end_within, length-take-le e class (omega (arith, end_within, class_long))) in
      sym (chars_cells (take e line) (take e class) n)
      ∙ ap chars_of (rw c (sym (code_part_law line class)) ∙ ap code_part line_cells ∙ code_part_encode (classify Carry.Code (decode line)))
      ∙ chars_encode_cells (code_part (classify Carry.Code (decode line)))

  comment_bytes : drop e line ≡ encode (comment_chars (decode line))
  comment_bytes =
      let n : length (drop e line) ≤ length (drop e class) = omega (arith, length-drop e line, length-drop e class, class_long) in
      sym (chars_cells (drop e line) (drop e class) n)
      ∙ ap chars_of (rw c (sym (comment_part_law line class)) ∙ ap comment_part line_cells ∙ comment_part_encode (classify Carry.Code (decode line)))
      ∙ chars_encode_cells (comment_part (classify Carry.Code (decode line)))

  pub code_well : WellFormed (take e line)
  code_well = subst WellFormed (sym code_bytes) (wf_encode (code_chars (decode line)) (scalars_left (code_chars (decode line)) (comment_chars (decode line)) both))

  pub comment_well : WellFormed (take (length line - e) (drop e line))
  comment_well = rw part_from (subst WellFormed (sym comment_bytes) (wf_encode (comment_chars (decode line)) (scalars_right (code_chars (decode line)) (comment_chars (decode line)) both)))

  code_is_law : {r : Bool} → r ≡ not (is_empty (trim_start (decode (take e line)))) → r ≡ has_code (classify Carry.Code (decode line))
  unfolding has_code
  code_is_law h = h ∙ ap (λ (l : List ℕ). not (is_empty (trim_start l))) (ap decode code_bytes ∙ decode_encode (code_chars (decode line)) (scalars_left (code_chars (decode line)) (comment_chars (decode line)) both))

  marks_is : {r : Bool} → r ≡ is_marker_text (decode (take (length line - e) (drop e line))) → r ≡ is_marker (classify Carry.Code (decode line))
  unfolding is_marker
  marks_is h = h ∙ ap is_marker_text (ap decode (part_from line e ∙ comment_bytes) ∙ decode_encode (comment_chars (decode line)) (scalars_right (code_chars (decode line)) (comment_chars (decode line)) both))

  pub marker_none : (r : Bool) → r ≡ is_marker_text (decode (take (length line - e) (drop e line))) → r ≡ false → None ≡ marker_in (decode line)
  marker_none r h f = sym (choose_false _ _ _ (sym (marks_is h) ∙ f))

  pub marker_after : (r s : Bool) → r ≡ is_marker_text (decode (take (length line - e) (drop e line))) → r ≡ true
      → s ≡ not (is_empty (trim_start (decode (take e line)))) → s ≡ true → (Some Marker.AfterCode) ≡ marker_in (decode line)
  marker_after r s h f i t = sym (choose_true _ _ _ (sym (marks_is h) ∙ f) ∙ choose_true _ _ _ (sym (code_is_law i) ∙ t))

  pub marker_alone : (r s : Bool) → r ≡ is_marker_text (decode (take (length line - e) (drop e line))) → r ≡ true
      → s ≡ not (is_empty (trim_start (decode (take e line)))) → s ≡ false → (Some Marker.Alone) ≡ marker_in (decode line)
  marker_alone r s h f i t = sym (choose_true _ _ _ (sym (marks_is h) ∙ f) ∙ choose_false _ _ _ (sym (code_is_law i) ∙ t))

-- ---- what a marker says of its line

pub record Found (l : List ℕ) (m d : Bool) : Type 0 where
  pub marks : is_marker (classify Carry.Code l) ≡ m
  pub code : is_marker (classify Carry.Code l) ≡ true → has_code (classify Carry.Code l) ≡ d

abbrev marks_of : Option Marker → Bool
marks_of None = false
marks_of (Some Marker.Alone) = true
marks_of (Some Marker.AfterCode) = true

abbrev code_in : Option Marker → Bool
code_in None = false
code_in (Some Marker.Alone) = false
code_in (Some Marker.AfterCode) = true

pub found : (l : List ℕ) (m : Option Marker) → m ≡ marker_in l → Found l (marks_of m) (code_in m)
unfolding choose
found l m e = go (is_marker (classify Carry.Code l)) (has_code (classify Carry.Code l)) refl refl
  where
    go : (a b : Bool) → is_marker (classify Carry.Code l) ≡ a → has_code (classify Carry.Code l) ≡ b → Found l (marks_of m) (code_in m)
    go true true p q = let k : m ≡ (Some Marker.AfterCode) = e ∙ rw (p, q) in record { marks = rw k p; code = λ h. rw k q }
    go true false p q = let k : m ≡ (Some Marker.Alone) = e ∙ rw (p, q) in record { marks = rw k p; code = λ h. rw k q }
    go false b p q =
        let k : m ≡ None = e ∙ rw p in
        record { marks = rw k p; code = λ h. let z : ◌≡◌ {A = Bool} true false = sym h ∙ p in let y : ◌≡◌ {A = ℕ} 0 1 = cc in absurd (omega arith) }

-- ---- a plain else starts with `e`, a marker that stands alone with `/`

starts_first : (c w : ℕ) (cs ws : List ℕ) → starts_with (c ∷ cs) (w ∷ ws) ≡ true → c ≡ w
unfolding starts_with
starts_first c w cs ws h = eqb-true c w (and_left (eqb c w) (starts_with cs ws) h)

no_start : (w : ℕ) (ws : List ℕ) → starts_with [] (w ∷ ws) ≡ true → ⊥
unfolding starts_with
no_start w ws h = let y : ◌≡◌ {A = ℕ} 0 1 = cc in omega arith

pub else_first : (l : List ℕ) → is_plain_else l ≡ true → (t : List ℕ) × (l ≡ 101 ∷ t)
unfolding is_plain_else starts_then
else_first [] h = absurd (no_start 101 _ (and_left _ _ (and_left _ _ h)))
else_first (c ∷ l) h = (l, ap (λ (x : ℕ). x ∷ l) (starts_first c 101 l _ (and_left _ _ (and_left _ _ h))))

pub else_closers : (l : List ℕ) → is_plain_else l ≡ true → leading_closers l ≡ 0
unfolding leading_closers leading choose
else_closers l h = rw (else_first l h).1

marker_first : (l : List ℕ) → is_marker_text l ≡ true → (t : List ℕ) × (l ≡ 47 ∷ t)
unfolding is_marker_text
marker_first [] h = absurd (no_start 47 _ (and_left _ _ (and_left _ _ h)))
marker_first (c ∷ l) h = (l, ap (λ (x : ℕ). x ∷ l) (starts_first c 47 l _ (and_left _ _ (and_left _ _ h))))

strike_other : (c : ℕ) (l t : List ℕ) → is_white c ≡ false → l ≡ c ∷ t → strike_white l ≡ c ∷ strike_white t
unfolding strike_white keep
strike_other c l t w e = rw (e, w)

strike_white_law : (c : ℕ) (l : List ℕ) → is_white c ≡ true → strike_white (c ∷ l) ≡ strike_white l
unfolding strike_white keep
strike_white_law c l w = rw w

slash_no_white : is_white 47 ≡ false
unfolding is_white
slash_no_white = refl

e_no_white : is_white 101 ≡ false
unfolding is_white
e_no_white = refl

-- the first character of the line that is no white space
struck_slash : (xs : List Cell) → is_marker_text (chars_of (comment_part xs)) ≡ true → not (is_empty (trim_start (chars_of (code_part xs)))) ≡ false
    → (t : List ℕ) × (strike_white (chars_of xs) ≡ 47 ∷ t)
unfolding from before chars_of choose trim_start
struck_slash [] m h = absurd (let z = marker_first [] m in omega (arith, ap length z.1))
struck_slash (x ∷ xs) m h = go (is_line_comment x.class) (struck_slash xs) m h
  where
    white : (b : Bool) → is_white x.ch ≡ b → (is_marker_text (chars_of (comment_part xs)) ≡ true → not (is_empty (trim_start (chars_of (code_part xs)))) ≡ false → (t : List ℕ) × (strike_white (chars_of xs) ≡ 47 ∷ t))
        → is_marker_text (chars_of (comment_part xs)) ≡ true → not (is_empty (trim_start (x.ch ∷ chars_of (code_part xs)))) ≡ false
        → (t : List ℕ) × (strike_white (x.ch ∷ chars_of xs) ≡ 47 ∷ t)
    white true w rest p q = let r = rest p (rw w at q) in (r.0, strike_white_law x.ch (chars_of xs) w ∙ r.1)
    white false w rest p q = let z : ◌≡◌ {A = Bool} true false = rw w at q in let y : ◌≡◌ {A = ℕ} 0 1 = cc in absurd (omega arith)

    go : (b : Bool) → (is_marker_text (chars_of (comment_part xs)) ≡ true → not (is_empty (trim_start (chars_of (code_part xs)))) ≡ false → (t : List ℕ) × (strike_white (chars_of xs) ≡ 47 ∷ t))
        → is_marker_text (chars_of (choose b (x ∷ xs) (comment_part xs))) ≡ true → not (is_empty (trim_start (chars_of (choose b [] (x ∷ code_part xs))))) ≡ false
        → (t : List ℕ) × (strike_white (x.ch ∷ chars_of xs) ≡ 47 ∷ t)
    go true rest p q = let z = marker_first (x.ch ∷ chars_of xs) p in (strike_white z.0, strike_other 47 _ z.0 slash_no_white z.1)
    go false rest p q = white (is_white x.ch) refl rest p q

pub alone_other : (l : List ℕ) → is_marker (classify Carry.Code l) ≡ true → has_code (classify Carry.Code l) ≡ false → is_plain_else (respaced l) ≡ false
unfolding is_marker has_code
alone_other l m h = go (is_plain_else (respaced l)) refl
  where
    go : (b : Bool) → is_plain_else (respaced l) ≡ b → b ≡ false
    go true e =
        let s = struck_slash (classify Carry.Code l) m h in
        let f = else_first (respaced l) e in
        let z : 101 ∷ strike_white f.0 ≡ 47 ∷ s.0 = sym (strike_other 101 _ f.0 e_no_white f.1) ∙ (like_spacing (classify Carry.Code l)).same ∙ s.1 in
        let y : ◌≡◌ {A = ℕ} 101 47 = cc in
        absurd (omega arith)
    go false e = refl
