-- Laws of the import and its braces.
use Prim.Native.Nat.{ℕ, zero, suc, ◌+◌, ◌-◌, ◌^◌, ◌≤◌, ◌<◌, zero-le}
use Prim.Native.Char.{Char, code}
use mathlib.Core.Bool.{not, Bool, true, false, ◌&&◌}
use mathlib.Core.List.{List, [], ◌∷◌, ◌++◌, map, map-append, foldl, reverse, append-nil, append_assoc}
use mathlib.Core.Option.{Option, none}
use Rattle.std.specs.Prelude.{Some, None}
use Rattle.std.specs.Prelude as code
use Rattle.std.specs.Bool.{then_some}
use mathlib.Core.Path.{◌≡◌, refl, sym, ap, ◌∙◌, subst}
use native.Mathlib.Numerals.{add-one}
use native.Mathlib.Nat.{add-zero}
use native.Mathlib.Omega.{arith}
use lib.Dec.{eqb, ltb}
use lib.ListN.{length, get_or, take, drop, length-append, length-drop, length-take, drop_of_length-le}
use lib.Seq.{drop-drop}
use borrow.Author.Tests.{eqb-true, le-leb, lt-leb, ltb-true, ltb-false}
use Rattle.buffer.specs.Buffer.{part}
use Rattle.compare.specs.Common.{Compared}
use Rattle.buffer.specs.Repeat.{times}
use Rattle.buffer.proofs.RegionLaws.{part_from}
use Rattle.compare.proofs.WriterLaws.{compared_append}
use Rattle.utf8.specs.Unicode.{encode_char, encode, decode, Scalars, trim_end}
use Rattle.utf8.specs.Places.{TrimmedEnd}
use Rattle.blocks.specs.Blocks.{NoneFrom, FirstFrom}
use Rattle.utf8.proofs.Tests.{by_test, and_right}
use Rattle.utf8.proofs.Table.{encode_char_1, Bytes, single, several}
use Rattle.utf8.proofs.Table.{bytes as bytes_of}
use Rattle.utf8.proofs.Decode.{encode_nil, encode_append, encode_ascii, decode_encode, decode_scalars, wf_encode}
use Rattle.rules.specs.declared.Carry.{Carry}
use Rattle.rules.specs.Basics.{choose, codes, starts_then, is_ident}
use Rattle.rules.specs.Options.{Options, indent_of, over_wide}
use Rattle.rules.specs.Scan.{Cell, chars_of, classify, is_code, before, from}
use Rattle.rules.specs.ClassBytes.{class_of, cells_of, FirstAt}
use Rattle.rules.specs.SplitImport.{Laid, code_is, before_code, from_code, names_of, add_name, fill_names, import_lines, import_parts, closed_import, opened_import, starts_import, split_import}
use Rattle.rules.proofs.Choose.{choose_true, choose_false}
use Rattle.rules.proofs.ScanBytes.{label, encode_cells, encode_cells_cons, chars_classify, chars_encode_cells}
use Rattle.rules.proofs.CellsLaws.{cells_bytes, chars_cells, drop_cells, length_class_bytes, length_classify, Finding, find_start, find_more, find_stop, find_end}
use Rattle.rules.proofs.WordsBytes.{import_encode, before_code_encode, from_code_encode}
use Rattle.split.specs.declared.NewLine.{NewLine}
use Rattle.split.specs.Measure.{InUse}
use Rattle.split.specs.Text.{indented, lay, following, last_of, LineWritten}
use Rattle.split.proofs.TextLaws.{following_append, last_append, written_lines, lay_encode, indent_short, level_fits}
use Rattle.split_import.specs.declared.NameLines.{NameLines}
use Rattle.split_import.specs.declared.ImportLines.{ImportLines}
use Rattle.split_import.specs.Names.{code_byte, FoundCode, byte_at, code_at, parts, names_text, NamesWritten}
use Rattle.split_import.specs.Import.{Given, ImportFits, HeadFits, head_line, HeadWritten, Braces, parts_of}

-- ---- the word

pub import_told : (line : List ℕ) (r : Bool) → r ≡ starts_then (codes "import") (λ c. not (is_ident c)) true line → r ≡ starts_import line
unfolding starts_import
import_told line r e = e

-- ---- a code character

-- ---- blocks without a byte

-- where the byte isn't, no code character is that byte
code_skip : (c : ℕ) (line class : List ℕ) → length line ≤ length class → (i : ℕ) → i ≤ length line → ((j : ℕ) → j < i → byte_at c line j ≡ false) → Finding (code_byte c) line class i
code_skip c line class room zero h f = find_start (code_byte c) line class
code_skip c line class room (suc i) h f =
    rw (← (add-one i)) (find_more (code_skip c line class room i (omega arith) (λ j l. f j (omega arith))) (omega arith) room (other (is_code (class_of (get_or class i 0))) (f i (omega arith))))
  where
    other : (t : Bool) → eqb (get_or line i 0) c ≡ false → (t && eqb (get_or line i 0) c) ≡ false
    other true e = e
    other false e = refl

code_begin : (c : ℕ) (line class : List ℕ) (i : ℕ) → length line ≤ length class → NoneFrom (byte_at c line) 0 (length line) i → Finding (code_byte c) line class i
code_begin c line class i room q = code_skip c line class room i q.within (λ j l. q.none j zero-le l)

-- ---- the first code character after them

module _ (c : ℕ) (line class : List ℕ) (start : ℕ) (room : length line ≤ length class) (b : NoneFrom (byte_at c line) 0 (length line) start)
    (r : ℕ) (f : FirstFrom (code_at c line class) start (length line) r)
  where
    code_run : (n : ℕ) → start + n ≤ r → Finding (code_byte c) line class (start + n)
    code_run zero h = rw (add-zero start) (code_begin c line class start room b)
    code_run (suc n) h =
        let e : start + suc n ≡ start + n + 1 = omega arith in
        rw e (find_more (code_run n (omega arith)) (omega (arith, f.within)) room (f.none (start + n) (omega arith) (omega arith)))

    code_scan : Finding (code_byte c) line class r
    code_scan =
        let e : start + (r - start) ≡ r = omega (arith, f.from) in
        subst (λ (i : ℕ). Finding (code_byte c) line class i) e (code_run (r - start) (omega arith))

    code_found : r < length line → FirstAt (code_byte c) line class r
    code_found h = find_stop code_scan h room (f.passes h)

    code_end : length line ≤ r → FirstAt (code_byte c) line class (length line)
    code_end h =
        let e : r ≡ length line = omega (arith, f.within) in
        subst (FirstAt (code_byte c) line class) e (find_end code_scan h)

    pub code_given : (o : code.Option ℕ) → o ≡ then_some (ltb r (length line)) r → FoundCode c line class o
    code_given o e =
        by_test (ltb r (length line))
        (λ t. let g : o ≡ Some r = rw t at e in let h : r < length line = ltb-true r (length line) t in subst (FoundCode c line class) (sym g) (code_found h, h))
        (λ t. let g : o ≡ None = rw t at e in subst (FoundCode c line class) (sym g) (code_end (ltb-false r (length line) t)))

-- ---- the lines of an import

-- of the options only the indent and the ruler tab matter
same_name : (o p : Options) → o.ruler_tab ≡ p.ruler_tab → (max : ℕ) (cont : List ℕ) (lines : List (List ℕ)) (name : List ℕ) → add_name o max cont lines name ≡ add_name p max cont lines name
unfolding add_name over_wide
same_name o p r max cont [] name = refl
same_name o p r max cont (cur ∷ done) name = rw r refl

same_fold : (o p : Options) → o.ruler_tab ≡ p.ruler_tab → (max : ℕ) (cont : List ℕ) (names lines : List (List ℕ)) → foldl (add_name o max cont) lines names ≡ foldl (add_name p max cont) lines names
same_fold o p r max cont [] lines = refl
same_fold o p r max cont (n ∷ ns) lines = same_fold o p r max cont ns (add_name o max cont lines n) ∙ ap (λ (ls : List (List ℕ)). foldl (add_name p max cont) ls ns) (same_name o p r max cont lines n)

same_fill : (o : Options) (indent : List ℕ) (ruler max level : ℕ) (names : List (List ℕ)) → InUse o indent ruler
    → fill_names o max (indent_of o (suc level)) names ≡ fill_names (indented indent ruler) max (times (level + 1) indent) names
unfolding fill_names indent_of
same_fill o indent ruler max level names e =
    rw (add-one level)
    (same_fold o (indented indent ruler) e.ruled max (times (suc level) o.indent) names []
    ∙ ap (λ (i : List ℕ). foldl (add_name (indented indent ruler) max (times (suc level) i)) [] names) e.indents)

-- the first line
module _ {head indent : List ℕ} {level at : ℕ} (f : HeadFits head indent level at) {n : ℕ} (t : TrimmedEnd head n) where
  cut_short : length (take n head) ≤ length head
  cut_short = omega (arith, length-take n head)

  pub head_room : at + (length (times level indent) + length (take n head)) < 2 ^ 64
  head_room = omega (arith, indent_short indent level f.indents, cut_short, f.room)

  module _ {model out out₁ : List ℕ} {m : ℕ} (a : Compared model out out₁ at (times level indent ++ take n head) m) where
    head_at : m ≤ at + (67108928 + length head)
    head_at = omega (arith, a.next, length-append (times level indent) (take n head), indent_short indent level f.indents, cut_short)

    pub brace_room : m + 2 < 2 ^ 64
    brace_room = omega (arith, head_at, f.room)

    pub head_written : {out₂ : List ℕ} {r : ℕ} → Compared model out₁ out₂ m (32 ∷ 123 ∷ []) r → HeadWritten head indent level model out out₂ at r
    head_written {out₂} {r} b =
        let e : take n head ≡ encode (trim_end (decode head)) = sym t.well ∙ ap encode t.text in
        record {
          text = rw (← e, ← (append_assoc (times level indent) (take n head) (32 ∷ 123 ∷ []))) (compared_append a b);
          room = omega (arith, b.next, head_at);
        }

module _ {line : List ℕ} {start end : ℕ} {indent : List ℕ} {level : ℕ} {eol : List ℕ} {at : ℕ} (b : Braces line start end indent level eol at) where
  -- ---- what is written

  module _ {few : Bool} (q : few ≡ ltb (length (names_of (parts (part line (start + 1) end)))) 2) where
    pub parts_none : (model out : List ℕ) (ruler max : ℕ) → few ≡ true → (o : Options) → InUse o indent ruler → Given (parts_of o max level line start end) eol model out out at None
    unfolding import_parts
    parts_none model out ruler max h o e =
        subst (λ (x : Option Laid). Given x eol model out out at None)
        (sym (choose_false _ _ _ (lt-leb 2 (length (names_of (parts (part line (start + 1) end)))) (ltb-true _ _ (sym q ∙ h)))))
        (record { is = refl; same = refl })

    module _ {ruler max : ℕ} {model out out₁ out₂ out₃ : List ℕ} {n : ℕ} {m : NameLines} {w : NewLine} (two : few ≡ false) (a₁ : HeadWritten (take start line) indent level model out out₁ at n)
        (a₂ : NamesWritten ruler (part line (start + 1) end) indent (level + 1) eol max model out₁ out₂ n m)
        (a₃ : LineWritten eol (lay indent level (take (length line - end) (drop end line))) model out₂ out₃ m.next w) where
      abbrev names : List (List ℕ)
      names = names_of (parts (part line (start + 1) end))

      abbrev filled : List (List ℕ)
      filled = fill_names (indented indent ruler) max (times (level + 1) indent) names

      abbrev top : List ℕ
      top = head_line indent level (take start line)

      abbrev bottom : List ℕ
      bottom = lay indent level (drop end line)

      a₃' : LineWritten eol bottom model out₂ out₃ m.next w
      a₃' = rw (part_from line end) at a₃

      -- the bytes, in order
      text : Compared model out out₃ at (top ++ following eol (map encode (reverse filled) ++ (bottom ∷ []))) w.next
      unfolding following
      text =
          rw (following_append eol (map encode (reverse filled)) (bottom ∷ []), append-nil (eol ++ bottom), ← (append_assoc top (names_text eol filled) (eol ++ bottom)))
          (compared_append (compared_append a₁.text a₂.text) a₃'.text)

      ends : w.start + length (last_of top (map encode (reverse filled) ++ (bottom ∷ []))) ≡ w.next
      unfolding last_of
      ends = rw (last_append top (map encode (reverse filled)) (bottom ∷ [])) a₃'.start

      module _ (o : Options) (e : InUse o indent ruler) where
        top_line : encode (indent_of o level ++ (trim_end (decode (take start line)) ++ codes " {")) ≡ top
        top_line =
            lay_encode o indent level (trim_end (decode (take start line)) ++ codes " {") e.indents (level_fits b.fits)
            ∙ rw (encode_append (trim_end (decode (take start line))) (codes " {"), encode_ascii (codes " {") (omega arith, (omega arith, tt)))

        other_lines_law : map encode (reverse (fill_names o max (indent_of o (suc level)) names) ++ ((indent_of o level ++ decode (drop end line)) ∷ [])) ≡ map encode (reverse filled) ++ (bottom ∷ [])
        other_lines_law =
            map-append encode (reverse (fill_names o max (indent_of o (suc level)) names)) ((indent_of o level ++ decode (drop end line)) ∷ [])
            ∙ rw (same_fill o indent ruler max level names e, lay_encode o indent level (decode (drop end line)) e.indents (level_fits b.fits), b.tail)

      pub parts_some : (o : Options) → InUse o indent ruler → Given (parts_of o max level line start end) eol model out out₃ at (Some (record { next = w.next; last = w.start; blanks = m.blanks }))
      unfolding import_parts import_lines
      parts_some o e =
          subst (λ (x : Option Laid). Given x eol model out out₃ at (Some (record { next = w.next; last = w.start; blanks = m.blanks })))
          (sym (choose_true _ _ _ (le-leb 2 (length names) (ltb-false _ _ (sym q ∙ two)))))
          (record {
            made = record { next = w.next; last = w.start; blanks = m.blanks };
            is = refl;
            written = written_lines eol (indent_of o level ++ (trim_end (decode (take start line)) ++ codes " {"))
                (reverse (fill_names o max (indent_of o (suc level)) names) ++ ((indent_of o level ++ decode (drop end line)) ∷ []))
                top (map encode (reverse filled) ++ (bottom ∷ [])) b.fits.ascii (top_line o e) (other_lines_law o e) text ends;
            blanks = a₂.blanks;
          })

-- ---- a brace, found in the bytes, and in the characters

cells_scalars : (k : Char) (xs : List Cell) → Scalars (chars_of xs) → Scalars (chars_of (before_code k xs)) × Scalars (chars_of (from_code k xs))
unfolding before from chars_of choose
cells_scalars k [] s = (tt, tt)
cells_scalars k (x ∷ xs) s = go (code_is k x) (cells_scalars k xs s.1)
  where
    go : (t : Bool) → Scalars (chars_of (before_code k xs)) × Scalars (chars_of (from_code k xs))
        → Scalars (chars_of (choose t [] (x ∷ before_code k xs))) × Scalars (chars_of (choose t (x ∷ xs) (from_code k xs)))
    go true q = (tt, s)
    go false q = ((s.0, q.0), q.1)

label_some : (x : Cell) → 0 < length (label x.class (encode_char x.ch))
unfolding label
label_some x = go (encode_char x.ch) (bytes_of x.ch)
  where
    go : (bs : List ℕ) → Bytes x.ch bs → 0 < length (label x.class bs)
    go bs (single h) = omega arith
    go bs (several hc hb hs) = omega arith

cells_nil : (xs : List Cell) → encode_cells xs ≡ [] → xs ≡ []
cells_nil [] e = refl
cells_nil (x ∷ xs) e = absurd (omega (arith, ap length (sym (encode_cells_cons x xs) ∙ e), length-append (label x.class (encode_char x.ch)) (encode_cells xs), label_some x))

none_bytes : encode (chars_of []) ≡ []
unfolding chars_of
none_bytes = encode_nil

from_head : (k : Char) (xs : List Cell) (y : Cell) (ys : List Cell) → from_code k xs ≡ y ∷ ys → code_is k y ≡ true
unfolding from choose
from_head k [] y ys e = cc
from_head k (x ∷ xs) y ys e = go (code_is k x) refl e (from_head k xs y ys)
  where
    go : (t : Bool) → code_is k x ≡ t → choose t (x ∷ xs) (from_code k xs) ≡ y ∷ ys → (from_code k xs ≡ y ∷ ys → code_is k y ≡ true) → code_is k y ≡ true
    go true p q r = let z : x ≡ y = cc in subst (λ (c : Cell). code_is k c ≡ true) z p
    go false p q r = r q

-- after an ASCII character
cells_rest : (k : Char) → ltb (code k) 0x80 ≡ true → (x : Cell) (xs : List Cell) → code_is k x ≡ true → drop 1 (encode_cells (x ∷ xs)) ≡ encode_cells xs
unfolding label
cells_rest k low x xs e =
    let c : x.ch ≡ code k = eqb-true x.ch (code k) (and_right (is_code x.class) (eqb x.ch (code k)) e) in
    let h : code k < 0x80 = ltb-true (code k) 0x80 low in
    rw (encode_cells_cons x xs, c, encode_char_1 (code k) h)

record Next (k : Char) (D : List Cell) (s ks : List ℕ) (i : ℕ) : Type 0 where
  head : Cell
  rest : List Cell
  is : from_code k D ≡ head ∷ rest
  cells : cells_of (drop (i + 1) s) (drop (i + 1) ks) ≡ encode_cells rest

module _ (k : Char) (low : ltb (code k) 0x80 ≡ true) (D : List Cell) (s ks : List ℕ) (eq : cells_of s ks ≡ encode_cells D) (room : length s ≤ length ks) (i : ℕ) (f : FirstAt (code_is k) s ks i) where
  before_cells : cells_of (take i s) (take i ks) ≡ encode_cells (before_code k D)
  before_cells = sym f.before ∙ ap (before_code k) eq ∙ before_code_encode k low D

  from_cells : cells_of (drop i s) (drop i ks) ≡ encode_cells (from_code k D)
  from_cells = sym f.from ∙ ap (from_code k) eq ∙ from_code_encode k low D

  before_bytes : take i s ≡ encode (chars_of (before_code k D))
  before_bytes =
      sym (chars_cells (take i s) (take i ks) (omega (arith, length-take i s, length-take i ks))) ∙ ap chars_of before_cells ∙ chars_encode_cells (before_code k D)

  from_bytes : drop i s ≡ encode (chars_of (from_code k D))
  from_bytes =
      sym (chars_cells (drop i s) (drop i ks) (omega (arith, length-drop i s, length-drop i ks))) ∙ ap chars_of from_cells ∙ chars_encode_cells (from_code k D)

  brace_none : length s ≤ i → from_code k D ≡ []
  unfolding cells_of
  brace_none h = cells_nil (from_code k D) (sym from_cells ∙ rw (drop_of_length-le s {i = i} h))

  brace_next : i < length s → Next k D s ks i
  brace_next h = go (from_code k D) refl
    where
      go : (l : List Cell) → from_code k D ≡ l → Next k D s ks i
      go [] e = absurd (omega (arith, ap length from_bytes, ap length (ap (λ (x : List Cell). encode (chars_of x)) e ∙ none_bytes), length-drop i s))
      go (x ∷ xs) e =
          record {
            head = x;
            rest = xs;
            is = e;
            cells =
                sym (ap (λ (a : List ℕ). cells_of a (drop (i + 1) ks)) (drop-drop 1 i s)) ∙ sym (ap (cells_of (drop 1 (drop i s))) (drop-drop 1 i ks))
                ∙ sym (drop_cells 1 (drop i s) (drop i ks)) ∙ ap (drop 1) (from_cells ∙ ap encode_cells e) ∙ cells_rest k low x xs (from_head k D x xs e);
          }

-- ---- the whole

module _ {line class indent : List ℕ} {level : ℕ} {eol : List ℕ} {at : ℕ} (f : ImportFits line class indent level eol at) where
  abbrev chars : List Cell
  chars = classify Carry.Code (decode line)

  cells_are : cells_of line class ≡ encode_cells chars
  cells_are = rw f.classes (cells_bytes Carry.Code line f.fits.well)

  as_long : length class ≡ length line
  as_long = rw f.classes (length_class_bytes (classify Carry.Code line) ∙ length_classify Carry.Code line)

  pub class_room : length line ≤ length class
  class_room = omega (arith, as_long)

  pub rest_room : (a : ℕ) → length (take (length line - a) (drop a line)) ≤ length (take (length class - a) (drop a class))
  rest_room a = omega (arith, ap length (part_from line a), ap length (part_from class a), length-drop a line, length-drop a class, as_long)

  starts_chars : starts_import (chars_of chars) ≡ starts_import line
  starts_chars = ap starts_import (chars_classify Carry.Code (decode line)) ∙ sym (import_encode (decode line)) ∙ ap starts_import f.fits.well

  not_given : (model out : List ℕ) (x : Option Laid) → x ≡ none → Given x eol model out out at None
  not_given model out x e = subst (λ (y : Option Laid). Given y eol model out out at None) (sym e) (record { is = refl; same = refl })

  module _ (r : Bool) (q : r ≡ starts_import line) where
    pub no_import : (model out : List ℕ) (ruler max : ℕ) → r ≡ false → (o : Options) → InUse o indent ruler → Given (split_import o max level chars) eol model out out at None
    unfolding split_import
    no_import model out ruler max e o i = not_given model out _ (choose_false _ _ _ (starts_chars ∙ sym q ∙ e))

    module _ (e : r ≡ true) (start : ℕ) (u : FirstAt (code_byte 123) line class start) where
      opened : (o : Options) (max : ℕ) → split_import o max level chars ≡ opened_import o max level (chars_of (before_code "{" chars)) (from_code "{" chars)
      unfolding split_import
      opened o max = choose_true _ _ _ (starts_chars ∙ sym q ∙ e)

      pub no_brace : (model out : List ℕ) (ruler max : ℕ) → length line ≤ start → (o : Options) → InUse o indent ruler → Given (split_import o max level chars) eol model out out at None
      unfolding opened_import
      no_brace model out ruler max h o i =
          not_given model out _ (opened o max ∙ ap (opened_import o max level (chars_of (before_code "{" chars))) (brace_none "{" refl chars line class cells_are class_room start u h))

      module _ (h : start < length line) (n : ℕ) (v : FirstAt (code_byte 125) (take (length line - (start + 1)) (drop (start + 1) line)) (take (length class - (start + 1)) (drop (start + 1) class)) n) where
        next : Next "{" chars line class start
        next = brace_next "{" refl chars line class cells_are class_room start u h

        abbrev a : ℕ
        a = start + 1

        abbrev inner : List Cell
        inner = next.rest

        v' : FirstAt (code_byte 125) (drop a line) (drop a class) n
        v' = rw (part_from line a, part_from class a) at v

        room : length (drop a line) ≤ length (drop a class)
        room = omega (arith, length-drop a line, length-drop a class, as_long)

        closed : (o : Options) (max : ℕ) → split_import o max level chars ≡ closed_import o max level (chars_of (before_code "{" chars)) (chars_of (before_code "}" inner)) (from_code "}" inner)
        unfolding opened_import
        closed o max = opened o max ∙ ap (opened_import o max level (chars_of (before_code "{" chars))) next.is

        pub no_close : (model out : List ℕ) (ruler max : ℕ) → length line ≤ start + 1 + n → (o : Options) → InUse o indent ruler → Given (split_import o max level chars) eol model out out at None
        unfolding closed_import
        no_close model out ruler max k o i =
            not_given model out _ (closed o max ∙ ap (closed_import o max level (chars_of (before_code "{" chars)) (chars_of (before_code "}" inner)))
            (brace_none "}" refl inner (drop a line) (drop a class) next.cells room n v' (omega (arith, length-drop a line))))

        scalars_all : Scalars (chars_of chars)
        scalars_all = subst Scalars (sym (chars_classify Carry.Code (decode line))) (decode_scalars line)

        scalars_inner : Scalars (chars_of inner)
        unfolding chars_of
        scalars_inner = (subst (λ (xs : List Cell). Scalars (chars_of xs)) next.is (cells_scalars "{" chars scalars_all).1).1

        head_is : take start line ≡ encode (chars_of (before_code "{" chars))
        head_is = before_bytes "{" refl chars line class cells_are class_room start u

        inside_is : part line (start + 1) (start + 1 + n) ≡ encode (chars_of (before_code "}" inner))
        inside_is =
            let m : start + 1 + n - (start + 1) ≡ n = omega arith in
            rw m (before_bytes "}" refl inner (drop a line) (drop a class) next.cells room n v')

        tail_is : drop (start + 1 + n) line ≡ encode (chars_of (from_code "}" inner))
        tail_is = sym (drop-drop n a line) ∙ from_bytes "}" refl inner (drop a line) (drop a class) next.cells room n v'

        module _ (k : start + 1 + n < length line) where
          pub found_braces : Braces line start (start + 1 + n) indent level eol at
          found_braces =
              record {
                fits = f.fits;
                order = omega arith;
                within = k;
                head = rw head_is (wf_encode _ (cells_scalars "{" chars scalars_all).0);
                inside = rw inside_is (wf_encode _ (cells_scalars "}" inner scalars_inner).0);
                tail = rw tail_is (wf_encode _ (cells_scalars "}" inner scalars_inner).1);
              }

          parts_are : (o : Options) (max : ℕ) → split_import o max level chars ≡ parts_of o max level line start (start + 1 + n)
          unfolding closed_import
          parts_are o max =
              let y : Next "}" inner (drop a line) (drop a class) n = brace_next "}" refl inner (drop a line) (drop a class) next.cells room n v' (omega (arith, length-drop a line)) in
              let hd : chars_of (before_code "{" chars) ≡ decode (take start line) = sym (ap decode head_is ∙ decode_encode _ (cells_scalars "{" chars scalars_all).0) in
              let mid : chars_of (before_code "}" inner) ≡ decode (part line (start + 1) (start + 1 + n)) = sym (ap decode inside_is ∙ decode_encode _ (cells_scalars "}" inner scalars_inner).0) in
              let tl : chars_of (y.head ∷ y.rest) ≡ decode (drop (start + 1 + n) line) = ap chars_of (sym y.is) ∙ sym (ap decode tail_is ∙ decode_encode _ (cells_scalars "}" inner scalars_inner).1) in
              closed o max ∙ ap (closed_import o max level (chars_of (before_code "{" chars)) (chars_of (before_code "}" inner))) y.is ∙ rw (hd, mid, tl)

          pub given_import : (model out out' : List ℕ) (s : code.Option ImportLines) (ruler max : ℕ) → ((o : Options) → InUse o indent ruler → Given (parts_of o max level line start (start + 1 + n)) eol model out out' at s)
              → (o : Options) → InUse o indent ruler → Given (split_import o max level chars) eol model out out' at s
          given_import model out out' s ruler max g o i = subst (λ (x : Option Laid). Given x eol model out out' at s) (sym (parts_are o max)) (g o i)
