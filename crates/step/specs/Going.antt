-- A line of code on its way: whether it holds a marker, how it goes on after spacing, and what it leaves.
use Rattle.std.specs.Prelude.{ℕ, ◌+◌, ◌-◌, ◌*◌, ◌≤◌, Bool, true, false, List, ◌≡◌, length, drop, get_or, Option, Some, None}
use Rattle.utf8.specs.Unicode.{encode, decode, trim_end, WellFormed}
use Rattle.buffer.specs.Buffer.{part}
use Rattle.rules.specs.Basics.{choose, is_empty}
use Rattle.rules.specs.Scan.{classify, carry_after}
use Rattle.rules.specs.ClassBytes.{class_bytes}
use Rattle.rules.specs.Spacing.{respaced}
use Rattle.rules.specs.Brackets.{leading_closers, scan_brackets, levels}
use Rattle.rules.specs.Words.{is_marker, has_code}
use Rattle.rules.specs.Else.{is_plain_else}
use Rattle.rules.specs.Lines.{as_str}
use Rattle.rules.specs.Options.{Options}
use Rattle.rules.specs.Refusals.{max_source}
use Rattle.rules.specs.Line.{Formatter, protects, code_line, any_line}
use Rattle.rules.specs.declared.Carry.{Carry}
use Rattle.rules.specs.declared.Ignore.{Ignore}
use Rattle.basics.specs.Depth.{carry_depth}
use Rattle.basics.specs.Region.{Only}
use Rattle.basics.specs.Closers.{Closers}
use Rattle.brackets.specs.Stack.{stacked, Popped}
use Rattle.brackets.specs.declared.Nesting.{Nesting}
use Rattle.text.specs.Text.{Ordered}
use Rattle.place.specs.Placing.{spaced_by, respaced_growth, HoldsText}
use Rattle.line.specs.Scratch.{respaced_at, stack_at, scratch_used}
use Rattle.line.specs.Holds.{Record, prev_of, Holds, Classes, Uses}
use Rattle.line.specs.declared.style.Style.{Style}
use Rattle.step.specs.declared.Going.{Going}
use Rattle.step.specs.declared.Marker.{Marker}
use Rattle.step.specs.declared.Put.{Put}
use Rattle.step.specs.declared.Scanned.{Scanned}

-- the marker of a line, and whether code stands before it
abbrev pub marker_of : Bool → Bool → Option Marker
marker_of marks code = choose marks (choose code (Some Marker.AfterCode) (Some Marker.Alone)) None

-- of the line of characters l
abbrev pub marker_in : List ℕ → Option Marker
marker_in l = marker_of (is_marker (classify Carry.Code l)) (has_code (classify Carry.Code l))

-- if r, the last class byte is none of a `//` comment
pub record EndsOutside (ks : List ℕ) (r : Bool) : Type 0 where
  pub some : r ≡ true → length ks ≡ 0 → ⊥
  pub last : r ≡ true → get_or ks (length ks - 1) 0 ≡ 2 → ⊥

-- whether a line with this marker is kept as written, where `pending` is pending
abbrev pub is_kept : Ignore → Option Marker → Bool
is_kept pending None = protects pending
is_kept pending (Some Marker.Alone) = protects pending
is_kept pending (Some Marker.AfterCode) = true

abbrev pub is_alone : Option Marker → Bool
is_alone None = false
is_alone (Some Marker.Alone) = true
is_alone (Some Marker.AfterCode) = false

-- a line of code that is not blank, trimmed at its end
pub record SolidLine (line : List ℕ) : Type 0 where
  pub well : WellFormed line
  pub trimmed : trim_end (decode line) ≡ decode line
  pub some : is_empty (decode line) ≡ false

-- a marker that stands alone is no plain else
pub record Marks (marker : Bool) (line : List ℕ) : Type 0 where
  pub other : marker ≡ true → is_plain_else (respaced (decode line)) ≡ false

-- room for a line of n bytes
pub record LineRoom (scratch : List ℕ) (unit n : ℕ) : Type 0 where
  pub short : n ≤ unit
  pub limit : unit ≤ max_source
  pub room : scratch_used unit ≤ length scratch

-- the bytes of the line that goes on
abbrev pub going_line : List ℕ → List ℕ → ℕ → Going → List ℕ
going_line line scratch unit g = choose g.own line (part scratch (respaced_at unit) (respaced_at unit + g.len))

-- the line that goes on, and its class bytes in scratch
pub record Goes (line scratch : List ℕ) (unit : ℕ) (g : Going) : Type 0 where
  pub long : length (going_line line scratch unit g) ≡ g.len
  pub well : WellFormed (going_line line scratch unit g)
  pub text : decode (going_line line scratch unit g) ≡ respaced (decode line)
  pub classes : part scratch g.class_at (g.class_at + g.len)
      ≡ class_bytes (classify Carry.Code (going_line line scratch unit g))
  pub leaves : g.carry ≡ carry_after Carry.Code (going_line line scratch unit g)
  pub depth : carry_depth g.carry ≤ g.len
  pub most : g.len ≤ 2 * length line
  pub fits : g.class_at + g.len ≤ stack_at unit

-- the class bytes of a line stand at the front of scratch, and the rest is as it was
pub record LineScanned (line before after : List ℕ) (r : Scanned) : Type 0 where
  pub classes : Classes Carry.Code line after 0 r.after
  pub marker : r.marker ≡ marker_in (decode line)
  pub only : Only before after 0 (length line)

-- and the stack is as it was
pub record Went (line before after : List ℕ) (unit : ℕ) (g : Going) : Type 0 where
  pub goes : Goes line after unit g
  pub only : Only before after 0 (stack_at unit)

-- the brackets of a line of n bytes, which goes on as the characters l, were counted after its leading closers popped
pub record BracketsCounted (l before after : List ℕ) (base : ℕ) (left : Nesting) (n : ℕ) (r : Nesting) : Type 0 where
  pub stack : stacked after base r.depth
      ≡ scan_brackets left.line (drop (leading_closers l) (classify Carry.Code l)) (stacked before base left.depth)
  pub runs : r.levels ≡ levels (stacked after base r.depth)
  pub most : r.depth ≤ left.depth + n
  pub line : r.line ≡ left.line
  pub long : length after ≡ length before

-- the step of a line
abbrev pub code_line_by : Options → List ℕ → Formatter → Formatter
code_line_by o raw f = code_line o f raw

abbrev pub any_line_by : Options → List ℕ → Formatter → Formatter
any_line_by o raw f = any_line o f raw

-- what a marker protects
abbrev pub ignore_of : Bool → Ignore
ignore_of marker = choose marker Ignore.NextLine Ignore.Nothing

-- the record after the line
abbrev pub after_line : Put → Nesting → Ignore → Carry → Record
after_line p deep ignore carry =
    record {
      text = p.st.text;
      nesting = deep;
      blank = false;
      prev = p.own;
      ignore = ignore;
      carry = carry;
      imports = p.st.imports;
      blanks = p.st.blanks;
    }

-- a line of n bytes, which goes on as the characters l, was put into the text
pub record PutOn (marker : Bool) (l indent : List ℕ) (style : Style) (model : List ℕ) (n unit : ℕ) (st : Record)
    (out scratch : List ℕ) (r : Put) (out' : List ℕ) : Type 0 where
  pub holds : (o : Options) (f : Formatter) → Uses o indent style
      → Holds model (as_str style.ending) unit f st out scratch
      → HoldsText model (as_str style.ending) (spaced_by marker l o f) r.st out'
  pub closers : Closers (encode l) r.closers
  pub left : Popped scratch (stack_at unit) st.nesting r.closers r.left
  pub own : r.own ≡ prev_of l
  pub ordered : Ordered r.st.text
  pub at : r.st.text.at.0 ≤ st.text.at.0 + (2 * n + 1) * respaced_growth
  pub imports : r.st.imports ≤ st.imports + 1
  pub blanks : r.st.blanks ≤ st.blanks + 2 * n
