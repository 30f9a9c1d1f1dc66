-- What putting a line into the text does.
use Rattle.std.specs.Prelude.{ℕ, ◌+◌, ◌*◌, ◌≤◌, ◌<◌, ◌^◌, Bool, true, false, ◌≡◌, eqb, ltb, length, drop, Option, Some, None}
use mathlib.Core.List.{List, reverse_aux}
use Rattle.utf8.specs.Unicode.{decode, trim_end, WellFormed}
use Rattle.rules.specs.Basics.{choose}
use Rattle.rules.specs.Scan.{classify}
use Rattle.rules.specs.ClassBytes.{class_bytes}
use Rattle.rules.specs.Options.{Options, PrintWidth}
use Rattle.rules.specs.Refusals.{max_source}
use Rattle.rules.specs.Brackets.{levels}
use Rattle.rules.specs.Lines.{as_str}
use Rattle.rules.specs.Line.{Formatter, drop_blank, broken, split_wide, spaced_line, placed_line}
use Rattle.rules.specs.declared.Carry.{Carry}
use Rattle.rules.specs.declared.Strengths.{Strengths}
use Rattle.basics.specs.Closers.{Closers}
use Rattle.format.specs.Words.{same_of}
use Rattle.format.specs.declared.words.Declaration.{Declaration}
use Rattle.text.specs.Text.{Text, Ordered}
use Rattle.text.specs.declared.Written.{Written}
use Rattle.split.specs.Measure.{InUse}
use Rattle.split.specs.declared.Layout.{Layout}
use Rattle.line.specs.declared.style.Style.{Style}
use Rattle.line.specs.Holds.{Record, Holds, Small, Uses, prev_of}
use Rattle.place.specs.declared.Placed.{Placed}
use Rattle.place.specs.declared.Placing.{Placing}

-- a line that goes on: trimmed, not empty, with its class bytes
pub record GoesOn (line class : List ℕ) : Type 0 where
  pub well : WellFormed line
  pub some : 1 ≤ length line
  pub short : length line ≤ 2 * max_source
  pub trimmed : trim_end (decode line) ≡ decode line
  pub classes : class ≡ class_bytes (classify Carry.Code line)

-- what the code knows before the line: what the record holds, and the levels left after the leading closers
pub record Knows (model eol : List ℕ) (f : Formatter) (k : Placing) (st : Record) (out : List ℕ) : Type 0 where
  pub unit : ℕ
  pub scratch : List ℕ
  pub holds : Holds model eol unit f st out scratch
  pub running : k.levels ≡ levels (drop k.closers f.stack)

-- and of the line itself, from its bytes
pub record Heads (line : List ℕ) (k : Placing) : Type 0 where
  pub closers : Closers line k.closers
  pub own : k.own ≡ prev_of line

-- what it asks, for a line of n bytes
pub record Asks (k : Placing) (st : Record) (n : ℕ) : Type 0 where
  pub small : Small st
  pub few : k.levels < max_source
  pub imports : st.imports ≤ max_source
  pub blanks : st.blanks + n ≤ 2 * max_source

-- a line that goes on, of n bytes, adds at most (n + 1) × respaced_growth bytes to the text; respaced it may have twice
-- the bytes of the source's
abbrev pub respaced_growth : ℕ
respaced_growth = 2 ^ 28

-- the record with another text and other counts
abbrev pub with_text : Record → Written → ℕ → ℕ → Record
with_text st text imports blanks =
    record {
      text = text;
      nesting = st.nesting;
      blank = st.blank;
      prev = st.prev;
      carry = st.carry;
      ignore = st.ignore;
      imports = imports;
      blanks = blanks;
    }

-- with those after a line
abbrev pub after_placed : Record → Placed → Record
after_placed st p = with_text st p.text (st.imports + p.imports) (st.blanks + p.blanks)

-- of the record f, the text and the counts are held
pub record HoldsText (model eol : List ℕ) (f : Formatter) (st : Record) (out : List ℕ) : Type 0 where
  pub text : Text model eol f.lines st.text out
  pub imports : st.imports ≡ f.imports_split
  pub blanks : st.blanks ≡ f.blank_names

-- a line of n bytes was put into the text, as the step g says
pub record Puts (g : Options → Formatter → Formatter) (indent model : List ℕ) (n : ℕ) (k : Placing) (st : Record)
    (out : List ℕ) (r : Record) (out' : List ℕ) : Type 0 where
  pub holds : (o : Options) (f : Formatter) → Uses o indent k.style
      → Knows model (as_str k.style.ending) f k st out → HoldsText model (as_str k.style.ending) (g o f) r out'
  pub ordered : Ordered r.text
  pub at : r.text.at.0 ≤ st.text.at.0 + (n + 1) * respaced_growth
  pub imports : r.imports ≤ st.imports + 1
  pub blanks : r.blanks ≤ st.blanks + n
  pub others : r ≡ with_text st r.text r.imports r.blanks

abbrev pub spaced_by : Bool → List ℕ → Options → Formatter → Formatter
spaced_by marker line o f = spaced_line o f marker line

abbrev pub placed_by : Bool → List ℕ → Options → Formatter → Formatter
placed_by marker line o f = placed_line o f marker line

-- whether a blank between goes
abbrev pub drops_blank : ℕ → Option Declaration → Option Declaration → Bool
drops_blank depth d before = choose (eqb depth 0) (same_of d before) false

-- the options in use where a line is laid out: those that have this indent, this ruler tab and these strengths
pub record LaidBy (o : Options) (indent : List ℕ) (ruler : ℕ) (st : Strengths) : Type 0 where
  pub used : InUse o indent ruler
  pub strengths : o.strengths ≡ st

-- the line of characters l was laid out at a level as `split_wide` says for the width w, after an empty newest line was
-- dropped if `drops` says so
pub record Lays (ruler : ℕ) (w : PrintWidth) (indent : List ℕ) (st : Strengths) (l : List ℕ) (level : ℕ)
    (model eol : List ℕ) (drops : Bool) (n : ℕ) (out : List ℕ) (t : Written) (r : Placed) (out' : List ℕ) : Type 0 where
  pub text : (o : Options) (ls : List (List ℕ)) → LaidBy o indent ruler st → Text model eol ls t out
      → Text model eol (reverse_aux (split_wide w o level l).lines (choose drops (drop_blank ls) ls)) r.text out'
  pub imports : (o : Options) → LaidBy o indent ruler st → r.imports ≡ (split_wide w o level l).imports_split
  pub blanks : (o : Options) → LaidBy o indent ruler st → r.blanks ≡ (split_wide w o level l).blank_names
  pub ordered : Ordered r.text
  pub at : r.text.at.0 ≤ t.at.0 + (n + 1) * respaced_growth
  pub few : r.imports ≤ 1
  pub fewer : r.blanks ≤ n

-- the width that a line may be broken at, by what is known before its classes are looked at
abbrev pub break_width : PrintWidth → Bool → Bool → ℕ → PrintWidth
break_width width marker continued closers =
    choose continued None (choose (eqb closers 0) (choose marker None width) None)

-- how a line of a style is laid out at a level, and broken at the width max
abbrev pub layout_of : Style → ℕ → ℕ → Layout
layout_of style level max =
    record { level = level; max = record { 0 = max }; ruler = style.ruler; ending = style.ending; strengths = style.strengths }

-- the width that a line is broken at, if it reaches past it to the column `reached` and all of it is code and strings
unfoldable pub fit_by : PrintWidth → ℕ → Bool → Option ℕ
fit_by None reached code = None
fit_by (Some max) reached code = choose (ltb max reached) (choose code (Some max) None) None

-- the line of characters l was broken at a level as `broken` says
pub record Breaks (ruler max : ℕ) (indent : List ℕ) (st : Strengths) (l : List ℕ) (level : ℕ) (model eol : List ℕ)
    (drops : Bool) (n : ℕ) (out : List ℕ) (t : Written) (r : Placed) (out' : List ℕ) : Type 0 where
  pub text : (o : Options) (ls : List (List ℕ)) → LaidBy o indent ruler st → Text model eol ls t out
      → Text model eol (reverse_aux (broken o max level l).lines (choose drops (drop_blank ls) ls)) r.text out'
  pub imports : (o : Options) → LaidBy o indent ruler st → r.imports ≡ (broken o max level l).imports_split
  pub blanks : (o : Options) → LaidBy o indent ruler st → r.blanks ≡ (broken o max level l).blank_names
  pub ordered : Ordered r.text
  pub at : r.text.at.0 ≤ t.at.0 + (n + 1) * respaced_growth
  pub few : r.imports ≤ 1
  pub fewer : r.blanks ≤ n

-- a text to which one line was added
abbrev pub alone_in : Written → Placed
alone_in t = record { text = t; imports = 0; blanks = 0 }
