-- Lines in a text, one after another.
use Rattle.std.specs.Prelude.{ℕ, ◌+◌, ◌*◌, ◌^◌, ◌≤◌, ◌<◌, true, List, [], ◌∷◌, ◌++◌, reverse, ◌≡◌, length}
use Rattle.compare.specs.Common.{Compared}
use Rattle.buffer.specs.Repeat.{times}
use Rattle.utf8.specs.Unicode.{encode, size, WellFormed}
use Rattle.rules.specs.Options.{Options, defaults, all_blank}
use Rattle.rules.specs.Assembly.{joined}
use Rattle.split.specs.Measure.{Indent}
use Rattle.split.specs.declared.NewLine.{NewLine}

-- options with an indent and a ruler tab
abbrev pub indented : List ℕ → ℕ → Options
indented indent ruler =
    record {
      indent = indent;
      print_width = defaults.print_width;
      end_of_line = defaults.end_of_line;
      insert_final_newline = defaults.insert_final_newline;
      ruler_tab = ruler;
      strengths = defaults.strengths;
    }

-- a text at a level
abbrev pub lay : List ℕ → ℕ → List ℕ → List ℕ
lay indent level l = times level indent ++ l

-- every part is well-formed
abbrev pub AllWell : List (List ℕ) → Type 0
AllWell [] = Unit {0}
AllWell (p ∷ ps) = WellFormed p × AllWell ps

-- lines after another: a line ending before each
unfoldable pub following : List ℕ → List (List ℕ) → List ℕ
following eol [] = []
following eol (l ∷ ls) = (eol ++ l) ++ following eol ls

-- the last of l and the lines after it
unfoldable pub last_of : List ℕ → List (List ℕ) → List ℕ
last_of l [] = l
last_of l (m ∷ ms) = last_of m ms

-- the first of lines, or the empty one
unfoldable pub first_of : List (List ℕ) → List ℕ
first_of [] = []
first_of (l ∷ ls) = l

-- a line to be written after others, at a level
pub record LineRoom (eol indent : List ℕ) (level : ℕ) (line : List ℕ) (at : ℕ) : Type 0 where
  pub indents : Indent indent level
  pub end : length eol ≤ 2
  pub room : at + (67108930 + length line) < 2 ^ 64

-- l is written after a line ending, from the place `at` on
pub record LineWritten (eol l model out out' : List ℕ) (at : ℕ) (r : NewLine) : Type 0 where
  pub text : Compared model out out' at (eol ++ l) r.next
  pub start : r.start + length l ≡ r.next

-- the lines stand in the text from the place `at` on, joined in order; the last of them starts at the place `last`, and
-- `next` is the next place
pub record Written (eol : List ℕ) (lines : List (List ℕ)) (model out out' : List ℕ) (at last next : ℕ) : Type 0 where
  pub text : Compared model out out' at (encode (joined eol (reverse lines))) next
  pub ends : last + size (first_of (reverse lines)) ≡ next

-- what a line's text can take, for each of its bytes and one more: an indent of 64 bytes at 1,048,577 levels and a line
-- ending are less
abbrev pub line_room : ℕ
line_room = 134217728

-- a line to be broken, at a level, and the place to write from: within the limits
pub record Fits (line indent : List ℕ) (level : ℕ) (eol : List ℕ) (at : ℕ) : Type 0 where
  pub well : WellFormed line
  pub blank : all_blank indent ≡ true
  pub short : length indent ≤ 64
  pub flat : level ≤ 1048576
  pub ascii : encode eol ≡ eol
  pub end : length eol ≤ 2
  pub size : length line < 2 ^ 31
  pub room : at + (length line + 1) * line_room < 2 ^ 64
