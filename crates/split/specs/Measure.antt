-- Columns and parts of a line.
use Rattle.std.specs.Prelude.{ℕ, ◌+◌, ◌-◌, ◌*◌, ◌^◌, ◌≤◌, ◌<◌, eqb, ltb, Bool, true, false, List, ◌++◌, ◌≡◌, length}
use Rattle.buffer.specs.Buffer.{part}
use Rattle.utf8.specs.Unicode.{decode, WellFormed, trim}
use Rattle.utf8.specs.Places.{units_of, TrimmedStart}
use Rattle.buffer.specs.Repeat.{times}
use Rattle.rules.specs.Basics.{choose}
use Rattle.rules.specs.Options.{Options, all_blank, next_stop, measure}
use Rattle.split.specs.declared.Part.{Part}

-- The options in use: those with this indent and this ruler tab.
pub record InUse (o : Options) (indent : List ℕ) (ruler : ℕ) : Type 0 where
  pub indents : o.indent ≡ indent
  pub ruled : o.ruler_tab ≡ ruler

-- the column after a byte, at a ruler above 0: the UTF-16 units of a character are added at its first byte
unfoldable pub byte_after : ℕ → ℕ → ℕ → ℕ
byte_after ruler from b = choose (eqb b 9) (next_stop ruler from) (from + units_of b)

-- a ruler tab is a byte, so that nothing takes more than 255 columns
pub record ByteMeasured (ruler from b r : ℕ) : Type 0 where
  pub is : r ≡ byte_after ruler from b
  pub small : r ≤ from + 255

pub record Measurable (from : ℕ) (l : List ℕ) : Type 0 where
  pub well : WellFormed l
  pub fits : from + 256 * length l < 2 ^ 64

-- r is the column that l reaches from column `from` on
pub record Measured (ruler from : ℕ) (l : List ℕ) (r : ℕ) : Type 0 where
  pub is : r ≡ measure ruler from (decode l)
  pub small : r ≤ from + 255 * length l

-- an indent of spaces and tabs, and a level, within the limits
pub record Indent (indent : List ℕ) (level : ℕ) : Type 0 where
  pub blank : all_blank indent ≡ true
  pub short : length indent ≤ 64
  pub flat : level ≤ 1048577

-- the last column that an indent can reach: 64 bytes at 1,048,577 levels
abbrev pub last_indent : ℕ
last_indent = 17112776640

-- r is the column after the indent of a level
pub record IndentMeasured (ruler : ℕ) (indent : List ℕ) (level r : ℕ) : Type 0 where
  pub is : r ≡ measure ruler 0 (times level indent)
  pub small : r ≤ last_indent

-- whether an indented line is wider than max
pub record Wide (ruler : ℕ) (indent : List ℕ) (level : ℕ) (line : List ℕ) (max : ℕ) (r : Bool) : Type 0 where
  pub is : r ≡ ltb max (measure ruler 0 (times level indent ++ decode line))

-- if r, an indented line is not wider than max
pub record Short (ruler : ℕ) (indent : List ℕ) (level : ℕ) (line : List ℕ) (max : ℕ) (r : Bool) : Type 0 where
  pub fits : r ≡ true → Wide ruler indent level line max false

-- a part of s that is well-formed
pub record Within (s : List ℕ) (a e : ℕ) : Type 0 where
  pub order : a ≤ e
  pub fits : e ≤ length s
  pub well : WellFormed (part s a e)

-- r is the part from a up to e, trimmed, and it starts where white space alone goes
pub record Trimmed (s : List ℕ) (a e : ℕ) (r : Part) : Type 0 where
  pub after : a ≤ r.start
  pub front : TrimmedStart (part s a e) (r.start - a)
  pub order : r.start ≤ r.end
  pub fits : r.end ≤ e
  pub well : WellFormed (part s r.start r.end)
  pub text : decode (part s r.start r.end) ≡ trim (decode (part s a e))
