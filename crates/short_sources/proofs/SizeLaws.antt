-- How long the text of a short source gets: with the default options, at most 456 bytes for six characters.
--     Within       how high the stack is, and how many characters the lines so far have with their endings
--     line_within  a line adds at most its length to the first; 16 characters and twice its length to the second
--     text_fits    so a source of at most 6 characters, which has at most 7 lines, stays within 7 × 16 and an ending
use Rattle.std.specs.Prelude.{Some}
use Prim.Native.Nat.{ℕ, suc, ◌+◌, ◌*◌, ◌≤◌}
use native.Mathlib.Omega.{arith}
use mathlib.Core.Bool.{Bool, true, false, cond}
use mathlib.Core.List.{List, [], ◌∷◌, ◌++◌, map, foldl}
use mathlib.Core.Path.{◌≡◌, refl, ap, ◌∙◌}
use lib.Dec.{ltb}
use lib.ListN.{length, drop, length-append, length-drop}
use borrow.Author.Tests.{le-ltb}
use Rattle.buffer.proofs.RepeatLaws.{length_times}
use Rattle.utf8.specs.Unicode.{encode_char, encode, units, width, trim, trim_end}
use Rattle.utf8.proofs.Tests.{cond_elim}
use Rattle.utf8.proofs.Trim.{length_trim, length_trim_end}
use Rattle.rules.specs.Basics.{choose, is, is_opener, Pieces, pieces, at_sep, split_on, codes, count}
use Rattle.rules.specs.Scan.{classify}
use Rattle.rules.specs.Lines.{as_str, lines_of, drop_cr}
use Rattle.rules.proofs.Columns.{measure_zero}
use Rattle.rules.specs.Options.{defaults, indent_of, measure, over_wide}
use Rattle.rules.specs.Spacing.{respaced}
use Rattle.rules.specs.Brackets.{Entry, levels, leading_closers, count_brackets}
use Rattle.rules.specs.Else.{join_else}
use Rattle.rules.specs.Line.{Formatter, start, scanned_part, closers_in, kept_stack, kept_line, as_written, inside_line, blank_line, protected_line, else_line, drop_blank}
use Rattle.rules.specs.Line.{lines_before, continues, level_of, one_line, split_wide, laid, placed_line, spaced_line, code_line, any_line}
use Rattle.rules.specs.Line.{format_line}
use Rattle.rules.specs.Assembly.{ending_of, drop_empty, joined, last_ending, finish, format_lines, format_with}
use Rattle.rules.specs.declared.Carry.{Carry}
use Rattle.rules.specs.declared.LineEnding.{LineEnding}
use Rattle.rules.proofs.Choose.{choose_case, choose_false}
use Rattle.rules.proofs.CellsLaws.{length_classify}
use Rattle.rules.proofs.ScanBytes.{chars_classify}
use Rattle.rules.proofs.SpacingBytes.{spacing_bound}
use Rattle.rules.proofs.SpacedLine.{count_height, count_length, height_spaced}
use Rattle.line_ends.proofs.LineCuts.{cr_fits}

-- ---- characters, units and bytes

width_within : (l : List ℕ) → width l ≤ 2 * length l
unfolding width units
width_within [] = omega arith
width_within (c ∷ l) =
    let one : cond (ltb c 0x10000) 1 2 ≤ 2 =
    cond_elim (λ (n : ℕ). n ≤ 2) (ltb c 0x10000) 1 2 (λ h. omega arith) (λ h. omega arith) in
    omega (arith, width_within l)

char_within : (c : ℕ) → length (encode_char c) ≤ 4
unfolding encode_char
char_within c =
    let P : List ℕ → Type 0 = λ bs. length bs ≤ 4 in
    cond_elim P (ltb c 0x80) _ _ (λ h. omega arith)
    (λ h. cond_elim P (ltb c 0x800) _ _ (λ i. omega arith)
    (λ i. cond_elim P (ltb c 0x10000) _ _ (λ j. omega arith) (λ j. omega arith)))

size_within : (l : List ℕ) → length (encode l) ≤ 4 * length l
unfolding encode
size_within [] = omega arith
size_within (c ∷ l) = omega (arith, length-append (encode_char c) (encode l), char_within c, size_within l)

respaced_within : (l : List ℕ) → length (respaced l) ≤ 2 * length l
respaced_within l = omega (arith, spacing_bound (classify Carry.Code l), length_classify Carry.Code l)

-- ---- lines, each with an ending

room : List (List ℕ) → ℕ
room [] = 0
room (l ∷ ls) = length l + 2 + room ls

joined_within : (eol : List ℕ) → length eol ≤ 2 → (ls : List (List ℕ)) → length (joined eol ls) ≤ room ls
unfolding joined room
joined_within eol h [] = omega arith
joined_within eol h (l ∷ []) = omega arith
joined_within eol h (l ∷ m ∷ ls) =
    omega (arith, joined_within eol h (m ∷ ls), length-append (joined eol (m ∷ ls)) (eol ++ l), length-append eol l)

empty_within : (ls : List (List ℕ)) → room (drop_empty ls) ≤ room ls
unfolding drop_empty room
empty_within [] = omega arith
empty_within ([] ∷ ls) = omega (arith, empty_within ls)
empty_within ((c ∷ l) ∷ ls) = omega arith

blank_within : (ls : List (List ℕ)) → room (drop_blank ls) ≤ room ls
unfolding drop_blank room
blank_within [] = omega arith
blank_within ([] ∷ ls) = omega arith
blank_within ((c ∷ l) ∷ ls) = omega arith

before_within : (f : Formatter) (line : List ℕ) → room (lines_before f line) ≤ room f.lines
unfolding lines_before
before_within f line =
    choose_case (λ (ls : List (List ℕ)). room ls ≤ room f.lines) (λ h. blank_within f.lines) (λ h. omega arith)

else_within : (line : List ℕ) (ls : List (List ℕ)) → room (join_else line ls) ≤ room ls + (length line + 16)
unfolding join_else room
else_within line [] = omega arith
else_within line (l ∷ ls) = omega (arith, length-append (trim_end l) (32 ∷ line), length_trim_end l)

-- ---- one line

record Within (height long : ℕ) (f : Formatter) : Type 0 where
  high : length f.stack ≤ height
  fits : room f.lines ≤ long

-- n characters more
abbrev Grown : ℕ → ℕ → ℕ → Formatter → Type 0
Grown n height long = Within (height + n) (long + (2 * n + 16))

at_most_one : (b : Bool) → choose b 1 0 ≤ 1
at_most_one b = choose_case (λ (n : ℕ). n ≤ 1) (λ h. omega arith) (λ h. omega arith)

levels_within : (s : List Entry) → levels s ≤ length s
unfolding levels
levels_within [] = omega arith
levels_within (e ∷ s) = omega (arith, at_most_one e.adds, levels_within s)

level_within : (f : Formatter) (line : List ℕ) → level_of f line ≤ length f.stack + 1
unfolding level_of
level_within f line =
    omega (
      arith,
      at_most_one (continues f.prev line),
      levels_within (drop (leading_closers line) f.stack),
      length-drop (leading_closers line) f.stack,
    )

indent_length : (level : ℕ) → length (indent_of defaults level) ≡ level * 2
unfolding indent_of
indent_length level = length_times level (codes "  ")

-- a line that the print width holds is not broken
module _ (level : ℕ) (line : List ℕ) (h : length (indent_of defaults level ++ line) ≤ 50) where
  narrow : over_wide defaults 100 (indent_of defaults level ++ line) ≡ false
  unfolding over_wide
  narrow =
      let l : List ℕ = indent_of defaults level ++ line in
      le-ltb 100 (measure 0 0 l) (omega (arith, measure_zero 0 l, width_within l))

  whole : (b : Bool) → choose b (split_wide (Some 100) defaults level line) (one_line (indent_of defaults level ++ line))
      ≡ one_line (indent_of defaults level ++ line)
  unfolding split_wide choose
  whole true = choose_false _ _ _ narrow
  whole false = refl

written_within : (y : Carry) (raw : List ℕ) → length (as_written y raw) ≤ length raw
unfolding as_written
written_within Carry.Code raw = omega arith
written_within (Carry.Block d) raw = length_trim_end raw
written_within Carry.Prefab raw = omega arith

scanned_within : (y : Carry) (raw : List ℕ) → length (scanned_part y raw) ≤ length raw
unfolding scanned_part
scanned_within Carry.Code raw = length_trim raw
scanned_within (Carry.Block d) raw = omega arith
scanned_within Carry.Prefab raw = omega arith

module _ (f : Formatter) (height long : ℕ) (w : Within height long f) where
  kept_within : (shown raw : List ℕ) → length shown ≤ length raw → Grown (length raw) height long (kept_line f shown raw)
  unfolding kept_line kept_stack room
  kept_within shown raw h =
      let line : List ℕ = scanned_part f.carry raw in
      record {
        high = omega (
          arith,
          w.high,
          count_height f.number (closers_in f.carry raw) (classify f.carry line) f.stack,
          ap (count is_opener) (chars_classify f.carry line),
          count_length is_opener line,
          scanned_within f.carry raw,
        );
        fits = omega (arith, w.fits);
      }

  inside_within : (raw : List ℕ) → Grown (length raw) height long (inside_line f raw)
  inside_within raw = kept_within (as_written f.carry raw) raw (written_within f.carry raw)

  blank_line_within : (n : ℕ) → Grown n height long (blank_line f)
  unfolding blank_line room
  blank_line_within n =
      choose_case (Grown n height long)
      (λ h. record { high = omega (arith, w.high); fits = omega (arith, w.fits) })
      (λ h. record { high = omega (arith, w.high); fits = omega (arith, w.fits) })

  protected_within : (raw : List ℕ) → Grown (length raw) height long (protected_line f raw)
  protected_within raw = kept_within raw raw (omega arith)

  module _ (l : List ℕ) where
    else_line_within : Grown (length l) height long (else_line f (respaced l))
    unfolding else_line count_brackets
    else_line_within =
        record {
          high = omega (arith, w.high, height_spaced f.number l 0 f.stack);
          fits = omega (arith, w.fits, else_within (respaced l) f.lines, respaced_within l);
        }

    placed_within : (marker : Bool) → height + length l ≤ 6
        → Grown (length l) height long (placed_line defaults f marker (respaced l))
    unfolding placed_line laid room
    placed_within marker few =
        let n : length (indent_of defaults (level_of f (respaced l)) ++ respaced l) ≤ 14 + 2 * length l =
        omega (
          arith,
          w.high,
          length-append (indent_of defaults (level_of f (respaced l))) (respaced l),
          indent_length (level_of f (respaced l)),
          level_within f (respaced l),
          respaced_within l,
        )
        in
        record {
          high = omega (arith, w.high, height_spaced f.number l (leading_closers (respaced l)) f.stack);
          fits = rw (whole (level_of f (respaced l)) (respaced l) (omega arith))
              (omega (arith, w.fits, before_within f (respaced l)));
        }

    spaced_within : (marker : Bool) → height + length l ≤ 6
        → Grown (length l) height long (spaced_line defaults f marker (respaced l))
    unfolding spaced_line
    spaced_within marker few =
        choose_case (Grown (length l) height long) (λ h. else_line_within) (λ h. placed_within marker few)

  any_within : (raw : List ℕ) → height + length raw ≤ 6
      → Grown (length raw) height long (any_line defaults f raw)
  unfolding any_line code_line
  any_within raw few =
      let P : Formatter → Type 0 = Grown (length raw) height long in
      let more : (g : Formatter) → Grown (length (trim raw)) height long g → P g =
      λ g r. record {
        high = omega (arith, r.high, length_trim raw);
        fits = omega (arith, r.fits, length_trim raw);
      } in
      choose_case P (λ g. protected_within raw)
      (λ g. choose_case P
      (λ h. choose_case P (λ i. blank_line_within (length raw))
      (λ i. choose_case P (λ j. protected_within raw)
      (λ j. more _ (spaced_within (trim raw) _ (omega (arith, length_trim raw))))))
      (λ h. inside_within raw))

  line_within : (raw : List ℕ) → height + length raw ≤ 6
      → Grown (length raw) height long (format_line defaults f raw)
  unfolding format_line
  line_within raw few = let w = any_within raw few in record { high = w.high; fits = w.fits }

-- ---- all lines

chars_in : List (List ℕ) → ℕ
chars_in [] = 0
chars_in (l ∷ ls) = length l + chars_in ls

lines_within : (raws : List (List ℕ)) (f : Formatter) (height long : ℕ) → Within height long f
    → height + chars_in raws ≤ 6
    → Within 6 (long + (2 * chars_in raws + 16 * length raws)) (foldl (format_line defaults) f raws)
unfolding chars_in
lines_within [] f height long w few = record { high = omega (arith, w.high); fits = omega (arith, w.fits) }
lines_within (raw ∷ raws) f height long w few =
    let g : Formatter = format_line defaults f raw in
    let k : Grown (length raw) height long g = line_within f height long w raw (omega arith) in
    let r = lines_within raws g (height + length raw) (long + (2 * length raw + 16)) k (omega arith) in
    record { high = r.high; fits = omega (arith, r.fits) }

-- each LF ends a line: the characters of the lines and their number come to one more than the source's
piece_chars : (b : Bool) (c : ℕ) (q : Pieces)
    → chars_in (pieces (at_sep b c q)) + length (pieces (at_sep b c q)) ≡ suc (chars_in (pieces q) + length (pieces q))
unfolding at_sep chars_in
piece_chars true c q = omega arith
piece_chars false c q = omega arith

split_chars : (l : List ℕ) → chars_in (pieces (split_on "\n" l)) + length (pieces (split_on "\n" l)) ≡ suc (length l)
unfolding split_on chars_in
split_chars [] = refl
split_chars (c ∷ l) = piece_chars (is "\n" c) c (split_on "\n" l) ∙ ap suc (split_chars l)

cr_chars : (ls : List (List ℕ)) → chars_in (map drop_cr ls) + length (map drop_cr ls) ≤ chars_in ls + length ls
unfolding chars_in
cr_chars [] = omega arith
cr_chars (l ∷ ls) = omega (arith, cr_chars ls, cr_fits l)

source_chars : (source : List ℕ) → chars_in (lines_of source) + length (lines_of source) ≤ suc (length source)
unfolding lines_of
source_chars source = omega (arith, cr_chars (pieces (split_on "\n" source)), split_chars source)

source_lines : (source : List ℕ) → 1 ≤ length (lines_of source)
unfolding lines_of
source_lines source = omega arith

ending_within : (e : LineEnding) → length (as_str e) ≤ 2
unfolding as_str
ending_within LineEnding.Lf = omega arith
ending_within LineEnding.Crlf = omega arith

text_within : (source : List ℕ) → length source ≤ 6 → length (format_with defaults source).text ≤ 114
unfolding format_with finish format_lines last_ending
text_within source few =
    let eol : List ℕ = as_str (ending_of defaults.end_of_line source) in
    let f : Formatter = foldl (format_line defaults) start (lines_of source) in
    let end : length eol ≤ 2 = ending_within (ending_of defaults.end_of_line source) in
    let w = lines_within (lines_of source) start 0 0 (record { high = omega arith; fits = unfold room in omega arith })
    (omega (arith, source_chars source, source_lines source)) in
    omega (
      arith,
      w.fits,
      source_chars source,
      length-append (joined eol (drop_empty f.lines)) eol,
      joined_within eol end (drop_empty f.lines),
      empty_within f.lines,
    )

pub text_fits : (source : List ℕ) → length source ≤ 6 → length (encode (format_with defaults source).text) ≤ 456
text_fits source few = omega (arith, text_within source few, size_within (format_with defaults source).text)
