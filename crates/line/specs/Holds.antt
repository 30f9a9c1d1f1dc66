-- What the code holds of the formatter's record, and what a step of the code does.
use Rattle.std.specs.Prelude.{ℕ, ◌+◌, ◌*◌, ◌≤◌, ◌^◌, Bool, true, false, List, ◌≡◌, length, take, None}
use Rattle.utf8.specs.Unicode.{decode, trim, WellFormed}
use Rattle.buffer.specs.Buffer.{part}
use Rattle.rules.specs.Basics.{choose, is, last_is}
use Rattle.rules.specs.Scan.{classify, carry_after}
use Rattle.rules.specs.ClassBytes.{class_bytes}
use Rattle.rules.specs.Options.{Options, max_indent, all_blank}
use Rattle.rules.specs.Refusals.{max_source}
use Rattle.rules.specs.Brackets.{levels}
use Rattle.rules.specs.Line.{Formatter, as_written, kept_line, blank_line}
use Rattle.rules.specs.declared.Carry.{Carry}
use Rattle.rules.specs.declared.Ignore.{Ignore}
use Rattle.basics.specs.Depth.{carry_depth}
use Rattle.basics.specs.Closers.{Closers}
use Rattle.brackets.specs.Stack.{stacked}
use Rattle.format.specs.Words.{declaration_of}
use Rattle.text.specs.Text.{Text, Ordered, nothing, far_place}
use Rattle.line.specs.declared.formatter.Formatter as code
use Rattle.line.specs.declared.formatter.Prev.{Prev}
use Rattle.line.specs.declared.style.Style.{Style}
use Rattle.line.specs.Scratch.{stack_at, scratch_used}

-- the formatter's record as the code has it
abbrev pub Record : Type 0
Record = code.Formatter

-- what later lines ask of a line
abbrev pub prev_of : List ℕ → Prev
prev_of line = record { declares = declaration_of line; brace = last_is (is "}") line }

-- before the first line
abbrev pub initial : Record
initial =
    record {
      text = nothing;
      nesting = record { depth = 0; levels = 0; line = 0 };
      blank = false;
      prev = record { declares = None; brace = false };
      ignore = Ignore.Nothing;
      carry = Carry.Code;
      imports = 0;
      blanks = 0;
    }

-- The code's state st, the output or what a comparison with the model keeps, and the scratch hold the definition's
-- record f.
pub record Holds (model eol : List ℕ) (unit : ℕ) (f : Formatter) (st : Record) (out scratch : List ℕ) : Type 0 where
  pub text : Text model eol f.lines st.text out
  pub stack : stacked scratch (stack_at unit) st.nesting.depth ≡ f.stack
  pub running : st.nesting.levels ≡ levels f.stack
  pub number : st.nesting.line ≡ f.number
  pub blank : st.blank ≡ f.prev_blank
  pub prev : st.prev ≡ prev_of f.prev
  pub ignore : st.ignore ≡ f.ignore
  pub carry : st.carry ≡ f.carry
  pub imports : st.imports ≡ f.imports_split
  pub blanks : st.blanks ≡ f.blank_names

-- the running value is the count over the stack
pub record Runs (unit : ℕ) (st : Record) (scratch : List ℕ) : Type 0 where
  pub is : st.nesting.levels ≡ levels (stacked scratch (stack_at unit) st.nesting.depth)

-- the lengths are in order and far below 2 ^ 64
pub record Small (st : Record) : Type 0 where
  pub ordered : Ordered st.text
  pub at : st.text.at.0 ≤ far_place

-- what a step asks: a line of n bytes is to come, which respaced has at most 2 × n
pub record Ready (st : Record) (scratch : List ℕ) (unit n : ℕ) : Type 0 where
  pub small : Small st
  pub depth : st.nesting.depth + n ≤ unit
  pub runs : Runs unit st scratch
  pub line : st.nesting.line ≤ unit
  pub carry : carry_depth st.carry + 2 * n ≤ 2 * unit
  pub imports : st.imports ≤ unit
  pub blanks : st.blanks + 2 * n ≤ 2 * unit
  pub limit : unit ≤ max_source
  pub room : scratch_used unit ≤ length scratch

-- a line of n bytes adds at most (n + 1) × growth bytes to the text
abbrev pub growth : ℕ
growth = 2 ^ 29

-- what a step from the record f to g f gives, for a line of n bytes
pub record Stepped (g : Formatter → Formatter) (n unit : ℕ) (model eol : List ℕ) (st : Record) (out scratch : List ℕ)
    (st' : Record) (out' scratch' : List ℕ) : Type 0 where
  pub holds : (f : Formatter) → Holds model eol unit f st out scratch → Holds model eol unit (g f) st' out' scratch'
  pub ordered : Ordered st'.text
  pub at : st'.text.at.0 ≤ st.text.at.0 + (n + 1) * growth
  pub runs : Runs unit st scratch → Runs unit st' scratch'
  pub depth : st'.nesting.depth ≤ st.nesting.depth + n
  pub line : st'.nesting.line ≡ st.nesting.line
  pub carry : carry_depth st'.carry ≤ carry_depth st.carry + 2 * n
  pub imports : st'.imports ≤ st.imports + 1
  pub blanks : st'.blanks ≤ st.blanks + 2 * n

-- a step that leaves the scratch alone
pub record Blanked (model eol : List ℕ) (st : Record) (out : List ℕ) (st' : Record) (out' : List ℕ) : Type 0 where
  pub step : (unit : ℕ) (scratch : List ℕ) → Stepped blank_line 0 unit model eol st out scratch st' out' scratch

-- the options in use: those that have this indent and this style
pub record Uses (o : Options) (indent : List ℕ) (style : Style) : Type 0 where
  pub indents : o.indent ≡ indent
  pub breaks : o.print_width ≡ style.width
  pub ruled : o.ruler_tab ≡ style.ruler
  pub strengths : o.strengths ≡ style.strengths

-- an indent of spaces and tabs
pub record ValidIndent (indent : List ℕ) : Type 0 where
  pub blank : all_blank indent ≡ true
  pub short : length indent ≤ max_indent

-- line is raw trimmed
pub record TrimmedLine (raw line : List ℕ) : Type 0 where
  pub well : WellFormed line
  pub text : decode line ≡ trim (decode raw)
  pub short : length line ≤ length raw

-- the class bytes of the line, which starts in y, stand in scratch from at on, and it leaves `after` open
pub record Classes (y : Carry) (line scratch : List ℕ) (at : ℕ) (after : Carry) : Type 0 where
  pub bytes : part scratch at (at + length line) ≡ class_bytes (classify y line)
  pub leaves : after ≡ carry_after y line
  pub depth : carry_depth after ≤ carry_depth y + length line

-- how much of a kept line is written: all of it, or, where it isn't protected and starts inside a comment, as far as
-- its end is trimmed to
abbrev pub shown_len : Bool → Carry → ℕ → ℕ → ℕ
shown_len true y tail len = len
shown_len false Carry.Code tail len = len
shown_len false (Carry.Block d) tail len = tail
shown_len false Carry.Prefab tail len = len

-- the part of a kept line that is scanned; line is raw trimmed
abbrev pub part_of : Carry → List ℕ → List ℕ → List ℕ
part_of Carry.Code raw line = line
part_of (Carry.Block d) raw line = raw
part_of Carry.Prefab raw line = raw

-- the closers that pop first
abbrev pub pop_first : Carry → List ℕ → ℕ → Type 0
pop_first Carry.Code line n = Closers line n
pop_first (Carry.Block d) line n = n ≡ 0
pop_first Carry.Prefab line n = n ≡ 0

pub record ClosersOf (y : Carry) (line : List ℕ) (n : ℕ) : Type 0 where
  pub is : pop_first y line n

-- so many bytes of it are written
pub record ShownPart (raw : List ℕ) (shown : ℕ) : Type 0 where
  pub fits : shown ≤ length raw
  pub well : WellFormed (take shown raw)

abbrev pub kept_by : List ℕ → List ℕ → Formatter → Formatter
kept_by shown raw f = kept_line f shown raw

-- a line of a protected block, or one that starts inside a comment or a prefab
abbrev pub raw_by : Bool → List ℕ → Formatter → Formatter
raw_by guarded raw f = kept_line f (choose guarded raw (as_written f.carry raw)) raw
