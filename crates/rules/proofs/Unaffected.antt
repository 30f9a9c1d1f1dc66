-- The lines that the stack's entries hold change nothing else: formatting with every one of them struck gives the same
-- record but for them.
--     unaffected               of all lines of a source
--     text_unaffected          of the finished text and both counts
use Prim.Native.Nat.{ℕ, zero, suc, ◌+◌}
use mathlib.Core.Bool.{Bool, true, false, not, ◌&&◌, ◌||◌}
use mathlib.Core.List.{List, [], ◌∷◌, foldl, map}
use mathlib.Core.Path.{◌≡◌, refl, sym, ap, ◌∙◌}
use lib.ListN.{length, drop, length-map}
use Rattle.utf8.specs.Unicode.{trim}
use Rattle.rules.specs.Basics.{choose, is, is_empty, is_opener, is_closer}
use Rattle.rules.specs.Scan.{Cell, classify, is_code}
use Rattle.rules.specs.Spacing.{respaced}
use Rattle.rules.specs.Words.{is_marker, has_code}
use Rattle.rules.specs.Else.{is_plain_else, can_join}
use Rattle.rules.specs.Options.{Options}
use Rattle.rules.specs.Lines.{as_str, lines_of}
use Rattle.rules.specs.Brackets.{Entry, Open, opened, leading_closers, push, pop_from, bracket_step, scan_brackets, levels, count_brackets}
use Rattle.rules.specs.Line.{Formatter, start, as_written, scanned_part, closers_in, kept_stack, kept_line, blank_line, else_line, lines_before, level_of, may_split, laid, placed_line, spaced_line, protects, code_line, in_code_now, any_line, format_line}
use Rattle.rules.specs.Assembly.{Formatted, ending_of, finish, format_lines, format_with}
use Rattle.rules.specs.declared.Carry.{Carry}

-- an entry without its line
abbrev bare : Entry → Entry
bare e = record { adds = e.adds; line = 0 }

-- the record with every line struck from its stack, and no number
abbrev pub struck : Formatter → Formatter
struck f =
    record {
      number = 0;
      lines = f.lines;
      stack = map bare f.stack;
      prev_blank = f.prev_blank;
      prev = f.prev;
      ignore = f.ignore;
      carry = f.carry;
      imports_split = f.imports_split;
      blank_names = f.blank_names;
    }

-- ---- the stack

abbrev struck_open : Open → Open
struck_open o = opened 0 o.added o.popped o.esc (map bare o.stack)

struck_drop : (n : ℕ) (s : List Entry) → map bare (drop n s) ≡ drop n (map bare s)
struck_drop zero s = refl
struck_drop (suc n) [] = refl
struck_drop (suc n) (e ∷ s) = struck_drop n s

struck_levels : (s : List Entry) → levels (map bare s) ≡ levels s
unfolding levels
struck_levels [] = refl
struck_levels (e ∷ s) = ap (λ (n : ℕ). choose e.adds 1 0 + n) (struck_levels s)

struck_none : (s : List Entry) → is_empty (map bare s) ≡ is_empty s
struck_none [] = refl
struck_none (e ∷ s) = refl

struck_push : (o : Open) → struck_open (push o) ≡ push (struck_open o)
unfolding push
struck_push o = refl

struck_pop : (s : List Entry) (o : Open) → struck_open (pop_from s o) ≡ pop_from (map bare s) (struck_open o)
unfolding pop_from
struck_pop [] o = refl
struck_pop (e ∷ s) o = refl

-- a test that both take
either {ℓ κ} : {A : Type ℓ} {B : Type κ} (g : A → B) (b : Bool) {x y : A} {u v : B} → g x ≡ u → g y ≡ v → g (choose b x y) ≡ choose b u v
unfolding choose
either g true p q = p
either g false p q = q

struck_step : (o : Open) (x : Cell) → struck_open (bracket_step o x) ≡ bracket_step (struck_open o) x
unfolding bracket_step
struck_step o x =
    either struck_open (not (is_code x.class)) refl
    (either struck_open o.esc refl
    (either struck_open (is "\\" x.ch) refl
    (either struck_open (is_opener x.ch) (struck_push o)
    (either struck_open (is_closer x.ch) (struck_pop o.stack o) refl))))

struck_fold : (cells : List Cell) (o : Open) → struck_open (foldl bracket_step o cells) ≡ foldl bracket_step (struck_open o) cells
struck_fold [] o = refl
struck_fold (x ∷ xs) o = struck_fold xs (bracket_step o x) ∙ ap (λ (p : Open). foldl bracket_step p xs) (struck_step o x)

struck_scan : (k : ℕ) (cells : List Cell) (s : List Entry) → map bare (scan_brackets k cells s) ≡ scan_brackets 0 cells (map bare s)
unfolding scan_brackets
struck_scan k cells s = ap (λ (o : Open). o.stack) (struck_fold cells (opened k 0 0 false s))

struck_count : (k n : ℕ) (cells : List Cell) (s : List Entry) → map bare (count_brackets k n cells s) ≡ count_brackets 0 n cells (map bare s)
unfolding count_brackets
struck_count k n cells s = struck_scan k (drop n cells) (drop n s) ∙ ap (scan_brackets 0 (drop n cells)) (struck_drop n s)

struck_twice : (s : List Entry) → map bare (map bare s) ≡ map bare s
struck_twice [] = refl
struck_twice (e ∷ s) = ap (λ (t : List Entry). bare e ∷ t) (struck_twice s)

count_same : (k n : ℕ) (cells : List Cell) (s : List Entry) → map bare (count_brackets k n cells s) ≡ map bare (count_brackets 0 n cells (map bare s))
count_same k n cells s =
    struck_count k n cells s ∙ sym (struck_count 0 n cells (map bare s) ∙ ap (count_brackets 0 n cells) (struck_twice s))

scan_same : (k : ℕ) (cells : List Cell) (s : List Entry) → map bare (scan_brackets k cells s) ≡ map bare (scan_brackets 0 cells (map bare s))
scan_same k cells s = struck_scan k cells s ∙ sym (struck_scan 0 cells (map bare s) ∙ ap (scan_brackets 0 cells) (struck_twice s))

-- ---- one line

-- a test that both take
both {ℓ κ} : {A : Type ℓ} {B : Type κ} (g : A → B) (b : Bool) {x y u v : A} → g x ≡ g u → g y ≡ g v → g (choose b x y) ≡ g (choose b u v)
unfolding choose
both g true p q = p
both g false p q = q

module _ (o : Options) (f : Formatter) where
  level_same : (line : List ℕ) → level_of (struck f) line ≡ level_of f line
  unfolding level_of
  level_same line = rw (← struck_drop, struck_levels)

  before_same : (line : List ℕ) → lines_before (struck f) line ≡ lines_before f line
  unfolding lines_before
  before_same line = rw struck_none

  laid_same : (marker : Bool) (line : List ℕ) → laid o (struck f) marker line ≡ laid o f marker line
  unfolding laid may_split
  laid_same marker line = rw level_same

  stack_same : (raw : List ℕ) → map bare (kept_stack f raw) ≡ map bare (kept_stack (struck f) raw)
  unfolding kept_stack
  stack_same raw = count_same f.number (closers_in f.carry raw) (classify f.carry (scanned_part f.carry raw)) f.stack

  -- as many brackets are open
  open_same : (raw : List ℕ) → length (kept_stack f raw) ≡ length (kept_stack (struck f) raw)
  open_same raw = sym (length-map (kept_stack f raw) bare) ∙ ap length (stack_same raw) ∙ length-map (kept_stack (struck f) raw) bare

  struck_kept : (shown raw : List ℕ) → struck (kept_line f shown raw) ≡ struck (kept_line (struck f) shown raw)
  unfolding kept_line
  struck_kept shown raw = rw (stack_same raw, open_same raw, ← length-map f.stack bare)

  struck_blank : struck (blank_line f) ≡ struck (blank_line (struck f))
  unfolding blank_line
  struck_blank = both struck (f.prev_blank || is_empty f.lines) (rw struck_twice) (rw struck_twice)

  struck_else : (line : List ℕ) → struck (else_line f line) ≡ struck (else_line (struck f) line)
  unfolding else_line
  struck_else line = rw (scan_same f.number (classify Carry.Code line) f.stack)

  struck_placed : (marker : Bool) (line : List ℕ) → struck (placed_line o f marker line) ≡ struck (placed_line o (struck f) marker line)
  unfolding placed_line
  struck_placed marker line =
      rw (laid_same marker line, before_same line, count_same f.number (leading_closers line) (classify Carry.Code line) f.stack)

  struck_spaced : (marker : Bool) (line : List ℕ) → struck (spaced_line o f marker line) ≡ struck (spaced_line o (struck f) marker line)
  unfolding spaced_line
  struck_spaced marker line = both struck (is_plain_else line && can_join f.lines) (struck_else line) (struck_placed marker line)

  struck_code : (raw : List ℕ) → struck (code_line o f raw) ≡ struck (code_line o (struck f) raw)
  unfolding code_line
  struck_code raw =
      both struck (protects f.ignore || (is_marker (classify Carry.Code (trim raw)) && has_code (classify Carry.Code (trim raw))))
      (struck_kept raw raw)
      (struck_spaced (is_marker (classify Carry.Code (trim raw))) (respaced (trim raw)))

  struck_line : (raw : List ℕ) → struck (format_line o f raw) ≡ struck (format_line o (struck f) raw)
  unfolding format_line any_line
  struck_line raw =
      both struck _ (struck_kept raw raw)
      (both struck (in_code_now f.carry) (both struck (is_empty (trim raw)) struck_blank (struck_code raw))
      (struck_kept (as_written f.carry raw) raw))

-- ---- all lines

-- the lines of a source, formatted with no line in any entry
abbrev pub struck_lines : Options → List (List ℕ) → Formatter → Formatter
struck_lines o raws f = foldl (λ g raw. struck (format_line o g raw)) f raws

pub unaffected : (o : Options) (raws : List (List ℕ)) (f : Formatter) → struck (format_lines o raws f) ≡ struck_lines o raws (struck f)
unfolding format_lines
unaffected o [] f = refl
unaffected o (raw ∷ raws) f = unaffected o raws (format_line o f raw) ∙ ap (struck_lines o raws) (struck_line o f raw)

pub record SameText (a b : Formatted) : Type 0 where
  pub text : a.text ≡ b.text
  pub imports_split : a.imports_split ≡ b.imports_split
  pub blank_names : a.blank_names ≡ b.blank_names

pub text_unaffected : (o : Options) (source : List ℕ)
    → SameText (format_with o source) (finish o source (as_str (ending_of o.end_of_line source)) (struck_lines o (lines_of source) start))
unfolding format_with finish
text_unaffected o source =
    let e : struck (format_lines o (lines_of source) start) ≡ struck_lines o (lines_of source) start = unaffected o (lines_of source) start in
    record {
      text = rw (← e);
      imports_split = ap (λ (f : Formatter). f.imports_split) e;
      blank_names = ap (λ (f : Formatter). f.blank_names) e;
    }
