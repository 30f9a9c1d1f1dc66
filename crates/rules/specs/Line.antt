-- format.rs, one line: the formatter's record before and after it.
use Rattle.std.specs.Prelude.{ℕ, ◌+◌, Bool, true, false, not, ◌&&◌, ◌||◌, eqb, ltb, length, drop, Some, None}
use mathlib.Core.List.{List, [], ◌∷◌, ◌++◌, reverse_aux}
use Rattle.std.proofs.Math.Option.{Option, none, some}
use Rattle.utf8.specs.Unicode.{trim, trim_end}
use Rattle.rules.specs.Basics.{choose, is, codes, at, last_is, is_empty}
use Rattle.rules.specs.Scan.{classify, carry_after, all_code_or_str}
use Rattle.rules.specs.Options.{Options, indent_of, over_wide, PrintWidth}
use Rattle.rules.specs.Spacing.{respaced}
use Rattle.rules.specs.Brackets.{Entry, leading_closers, scan_brackets, count_brackets, levels}
use Rattle.rules.specs.Words.{starts_with_word, starts_with_binary_op, same_declaration, is_marker, has_code}
use Rattle.rules.specs.Else.{is_plain_else, can_join, join_else}
use Rattle.rules.specs.SplitImport.{Laid, split_import}
use Rattle.rules.specs.Strengths.{strengths_in}
use Rattle.rules.specs.SplitOperation.{split_operation}
use Rattle.rules.specs.declared.Carry.{Carry}
use Rattle.rules.specs.declared.Ignore.{Ignore}

-- `number` is of the source line that is read, from 0; `lines` has the newest line first; `prev` is the previous line
-- that is not blank
pub record Formatter : Type 0 where
  pub number : ℕ
  pub lines : List (List ℕ)
  pub stack : List Entry
  pub prev_blank : Bool
  pub prev : List ℕ
  pub ignore : Ignore
  pub carry : Carry
  pub imports_split : ℕ
  pub blank_names : ℕ

abbrev pub start : Formatter
start =
    record {
      number = 0;
      lines = [];
      stack = [];
      prev_blank = false;
      prev = [];
      ignore = Ignore.Nothing;
      carry = Carry.Code;
      imports_split = 0;
      blank_names = 0;
    }

-- The record after a line that was written: the lines, the stack, the line as the previous one, what its marker
-- protects, what it leaves open.
abbrev pub after : Formatter → List (List ℕ) → List Entry → List ℕ → Ignore → Carry → Formatter
after f lines stack prev ignore carry =
    record {
      number = f.number;
      lines = lines;
      stack = stack;
      prev_blank = false;
      prev = prev;
      ignore = ignore;
      carry = carry;
      imports_split = f.imports_split;
      blank_names = f.blank_names;
    }

-- A line that starts in code is scanned without the white space around it; one that starts inside a comment or a prefab
-- has no leading closers.
unfoldable pub scanned_part : Carry → List ℕ → List ℕ
scanned_part Carry.Code raw = trim raw
scanned_part (Carry.Block d) raw = raw
scanned_part Carry.Prefab raw = raw

unfoldable pub closers_in : Carry → List ℕ → ℕ
closers_in Carry.Code raw = leading_closers (trim raw)
closers_in (Carry.Block d) raw = 0
closers_in Carry.Prefab raw = 0

-- the brackets open after a line that is kept
unfoldable pub kept_stack : Formatter → List ℕ → List Entry
kept_stack f raw =
    count_brackets f.number (closers_in f.carry raw) (classify f.carry (scanned_part f.carry raw)) f.stack

-- A lone marker protects the next line that is not blank and, if that leaves more brackets open than before it, every
-- line up to and with the first that ends with the earlier count or below. A marker on a protected line protects
-- nothing.
unfoldable pub block_after : ℕ → ℕ → Ignore
block_after earlier now = choose (ltb earlier now) (Ignore.Block earlier) Ignore.Nothing

unfoldable pub protected_after : Ignore → ℕ → ℕ → Ignore
protected_after Ignore.Nothing before now = Ignore.Nothing
protected_after Ignore.NextLine before now = block_after before now
protected_after (Ignore.Block earlier) before now = block_after earlier now

-- A line that is kept goes out as `shown`. Its brackets are counted, and it becomes the previous line, trimmed.
unfoldable pub kept_line : Formatter → List ℕ → List ℕ → Formatter
kept_line f shown raw =
    after f (shown ∷ f.lines) (kept_stack f raw) (trim raw)
    (protected_after f.ignore (length f.stack) (length (kept_stack f raw)))
    (carry_after f.carry (scanned_part f.carry raw))

-- A line starting inside a comment is trimmed at its end; one inside a prefab is kept whole.
unfoldable pub as_written : Carry → List ℕ → List ℕ
as_written Carry.Code raw = raw
as_written (Carry.Block d) raw = trim_end raw
as_written Carry.Prefab raw = raw

abbrev pub inside_line : Formatter → List ℕ → Formatter
inside_line f raw = kept_line f (as_written f.carry raw) raw

-- A protected line is kept as written.
abbrev pub protected_line : Formatter → List ℕ → Formatter
protected_line f raw = kept_line f raw raw

-- Of blank lines in a row one is written, and none before the first written line. A pending marker stays pending.
unfoldable pub blank_line : Formatter → Formatter
blank_line f =
    choose (f.prev_blank || is_empty f.lines) f
    (record {
      number = f.number;
      lines = [] ∷ f.lines;
      stack = f.stack;
      prev_blank = true;
      prev = f.prev;
      ignore = f.ignore;
      carry = f.carry;
      imports_split = f.imports_split;
      blank_names = f.blank_names;
    })

-- a plain `else` joined to the newest line: no indent, blank or split rule applies
unfoldable pub else_line : Formatter → List ℕ → Formatter
else_line f line =
    after f (join_else line f.lines) (scan_brackets f.number (classify Carry.Code line) f.stack) line
    Ignore.Nothing (carry_after Carry.Code line)

-- Blank between declarations: the newest line goes if it is empty, no bracket is open and both lines declare the same.
unfoldable pub drop_blank : List (List ℕ) → List (List ℕ)
drop_blank [] = []
drop_blank ([] ∷ ls) = ls
drop_blank ((c ∷ cs) ∷ ls) = (c ∷ cs) ∷ ls

unfoldable pub lines_before : Formatter → List ℕ → List (List ℕ)
lines_before f line = choose (is_empty f.stack && same_declaration line f.prev) (drop_blank f.lines) f.lines

-- The line continues the one before: it has no leading closers, and starts with the word `then`, with `else` after a
-- line not ending in `}`, with a binary operator, or with `.` but not `...`.
unfoldable pub continues : List ℕ → List ℕ → Bool
continues prev line =
    eqb (leading_closers line) 0
    && (starts_with_word line (codes "then")
    || (starts_with_word line (codes "else") && not (last_is (is "}") prev))
    || starts_with_binary_op line
    || (at line "." && not (at line "...")))

-- the indent: levels after the leading closers popped, plus one if the line continues
unfoldable pub level_of : Formatter → List ℕ → ℕ
level_of f line = levels (drop (leading_closers line) f.stack) + choose (continues f.prev line) 1 0

abbrev pub one_line : List ℕ → Laid
one_line l = record { lines = l ∷ []; imports_split = 0; blank_names = 0 }

-- import first, otherwise operators
unfoldable pub or_operation : Option Laid → Options → ℕ → ℕ → List ℕ → Laid
or_operation (some laid) o max level line = laid
or_operation none o max level line =
    record {
      lines = split_operation (strengths_in o.strengths.table) o max level line;
      imports_split = 0;
      blank_names = 0;
    }

unfoldable pub broken : Options → ℕ → ℕ → List ℕ → Laid
broken o max level line = or_operation (split_import o max level (classify Carry.Code line)) o max level line

-- the line may be split: it doesn't continue, has no leading closers, is no marker and is all Code and Str
unfoldable pub may_split : Formatter → Bool → List ℕ → Bool
may_split f marker line =
    not (continues f.prev line) && eqb (leading_closers line) 0 && not marker
    && all_code_or_str (classify Carry.Code line)

-- broken, where the line, its indent included, is wider than the print width
unfoldable pub split_wide : PrintWidth → Options → ℕ → List ℕ → Laid
split_wide None o level line = one_line (indent_of o level ++ line)
split_wide (Some max) o level line =
    choose (over_wide o max (indent_of o level ++ line)) (broken o max level line) (one_line (indent_of o level ++ line))

unfoldable pub laid : Options → Formatter → Bool → List ℕ → Laid
laid o f marker line =
    choose (may_split f marker line) (split_wide o.print_width o (level_of f line) line)
    (one_line (indent_of o (level_of f line) ++ line))

-- the counts of a line that was laid out, added to the record's
abbrev pub counting : Laid → Formatter → Formatter
counting l f =
    record {
      number = f.number;
      lines = f.lines;
      stack = f.stack;
      prev_blank = f.prev_blank;
      prev = f.prev;
      ignore = f.ignore;
      carry = f.carry;
      imports_split = f.imports_split + l.imports_split;
      blank_names = f.blank_names + l.blank_names;
    }

unfoldable pub placed_line : Options → Formatter → Bool → List ℕ → Formatter
placed_line o f marker line =
    counting (laid o f marker line)
    (after f (reverse_aux (laid o f marker line).lines (lines_before f line))
    (count_brackets f.number (leading_closers line) (classify Carry.Code line) f.stack)
    line
    (choose marker Ignore.NextLine Ignore.Nothing)
    (carry_after Carry.Code line))

unfoldable pub spaced_line : Options → Formatter → Bool → List ℕ → Formatter
spaced_line o f marker line =
    choose (is_plain_else line && can_join f.lines) (else_line f line) (placed_line o f marker line)

abbrev pub protects : Ignore → Bool
protects Ignore.Nothing = false
protects Ignore.NextLine = true
protects (Ignore.Block n) = true

abbrev pub in_block : Ignore → Bool
in_block Ignore.Nothing = false
in_block Ignore.NextLine = false
in_block (Ignore.Block n) = true

unfoldable pub code_line : Options → Formatter → List ℕ → Formatter
code_line o f raw =
    choose (protects f.ignore || (is_marker (classify Carry.Code (trim raw))
    && has_code (classify Carry.Code (trim raw))))
    (protected_line f raw)
    (spaced_line o f (is_marker (classify Carry.Code (trim raw))) (respaced (trim raw)))

abbrev pub in_code_now : Carry → Bool
in_code_now Carry.Code = true
in_code_now (Carry.Block d) = false
in_code_now Carry.Prefab = false

-- in a protected block every line is kept as written, blank ones and those of comments and prefabs too
unfoldable pub any_line : Options → Formatter → List ℕ → Formatter
any_line o f raw =
    choose (in_block f.ignore) (protected_line f raw)
    (choose (in_code_now f.carry) (choose (is_empty (trim raw)) (blank_line f) (code_line o f raw))
    (inside_line f raw))

-- the next source line is read
abbrev pub read_on : Formatter → Formatter
read_on f =
    record {
      number = f.number + 1;
      lines = f.lines;
      stack = f.stack;
      prev_blank = f.prev_blank;
      prev = f.prev;
      ignore = f.ignore;
      carry = f.carry;
      imports_split = f.imports_split;
      blank_names = f.blank_names;
    }

unfoldable pub format_line : Options → Formatter → List ℕ → Formatter
format_line o f raw = read_on (any_line o f raw)
