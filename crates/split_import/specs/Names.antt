-- The names of an import, in bytes: pieces between commas, counted and filled into lines.
use Rattle.std.specs.Prelude.{ℕ, ◌+◌, ◌-◌, ◌*◌, ◌^◌, ◌≤◌, ◌<◌, Bool, true, ◌&&◌, List, [], ◌∷◌, ◌++◌, map, reverse, ◌≡◌, eqb, leb, length, get_or, take, drop, Option, Some, None}
use Rattle.buffer.specs.Buffer.{part}
use Rattle.compare.specs.Common.{Compared}
use Rattle.buffer.specs.Repeat.{times}
use Rattle.utf8.specs.Unicode.{encode, decode, WellFormed}
use Rattle.rules.specs.Basics.{choose, pieces, split_on}
use Rattle.rules.specs.Options.{measure}
use Rattle.rules.specs.Scan.{Cell, is_code}
use Rattle.rules.specs.ClassBytes.{class_of, FirstAt}
use Rattle.rules.specs.SplitImport.{names_of, blanks_of, with_comma, add_name, fill_names}
use Rattle.utf8.specs.declared.Utf16Column.{Utf16Column}
use Rattle.split.specs.declared.Part.{Part}
use Rattle.split.specs.Measure.{Indent, last_indent}
use Rattle.split.specs.Text.{indented, lay, following, line_room}
use Rattle.split_import.specs.declared.Filled.{Filled}
use Rattle.split_import.specs.declared.NameLines.{NameLines}

-- x is the code character c
abbrev pub code_byte : ℕ → Cell → Bool
code_byte c x = is_code x.class && eqb x.ch c

-- r is where the first code character c stands
abbrev pub FoundCode : ℕ → List ℕ → List ℕ → Option ℕ → Type 0
FoundCode c line class None = FirstAt (code_byte c) line class (length line)
FoundCode c line class (Some i) = FirstAt (code_byte c) line class i × (i < length line)

-- the code character c stands at i
abbrev pub code_at : ℕ → List ℕ → List ℕ → ℕ → Bool
code_at c line class i = is_code (class_of (get_or class i 0)) && eqb (get_or line i 0) c

-- the byte at i is b
abbrev pub byte_at : ℕ → List ℕ → ℕ → Bool
byte_at b s i = eqb (get_or s i 0) b

-- ---- pieces between commas

-- the pieces of s from a on; none past its end
unfoldable pub left : List ℕ → ℕ → List (List ℕ)
left s a = choose (leb a (length s)) (pieces (split_on "," (drop a s))) []

-- the first piece of s has r bytes
pub record NameLen (s : List ℕ) (r : ℕ) : Type 0 where
  pub fits : r ≤ length s
  pub is : pieces (split_on "," s) ≡ take r s ∷ left s (r + 1)

-- the pieces' characters
abbrev pub parts : List ℕ → List (List ℕ)
parts s = pieces (split_on "," (decode s))

pub record CountableNames (s : List ℕ) : Type 0 where
  pub well : WellFormed s
  pub short : length s < 2 ^ 31

-- a part that stands between a space and a comma
pub record Between (s : List ℕ) (p : Part) : Type 0 where
  pub after : 0 < p.start
  pub within : p.end < length s
  pub text : part s (p.start - 1) (p.end + 1) ≡ 32 ∷ (part s p.start p.end ++ 44 ∷ [])

-- r is true only where it does
pub record Spaced (s : List ℕ) (p : Part) (r : Bool) : Type 0 where
  pub is : r ≡ true → Between s p

-- ---- lines of names

pub record NamePlace (eol indent : List ℕ) (level : ℕ) (name : List ℕ) (at : ℕ) : Type 0 where
  pub indents : Indent indent level
  pub end : length eol ≤ 2
  pub room : at + (67108931 + length name) < 2 ^ 64

pub record Named (from : ℕ) (name : List ℕ) : Type 0 where
  pub well : WellFormed name
  pub fits : from + 256 * length name + 512 < 2 ^ 64

-- r is the column after a name and its comma
pub record NameMeasured (ruler from : ℕ) (name : List ℕ) (r : ℕ) : Type 0 where
  pub is : r ≡ measure ruler from (with_comma (decode name))
  pub small : r ≤ from + 255 * length name + 255

-- the column that the newest of the lines reaches
abbrev pub newest_column : ℕ → List (List ℕ) → Option Utf16Column
newest_column ruler [] = None
newest_column ruler (cur ∷ done) = Some (record { 0 = measure ruler 0 cur })

-- what f says of the lines of names so far, the newest first
pub record NewestAt (ruler : ℕ) (lines : List (List ℕ)) (f : Filled) : Type 0 where
  pub is : f.column ≡ newest_column ruler lines

-- that column, or 0
abbrev pub column_of : Option Utf16Column → ℕ
column_of None = 0
column_of (Some c) = c.0

pub record NameFits (indent : List ℕ) (level : ℕ) (eol name : List ℕ) (f : Filled) : Type 0 where
  pub indents : Indent indent level
  pub end : length eol ≤ 2
  pub well : WellFormed name
  pub short : length name < 2 ^ 31
  pub narrow : column_of f.column < 2 ^ 48
  pub room : f.at + (67108931 + length name) < 2 ^ 64

-- the bytes of lines of names, the newest first, each after a line ending
abbrev pub names_text : List ℕ → List (List ℕ) → List ℕ
names_text eol lines = following eol (map encode (reverse lines))

pub record OnNewLine (ruler : ℕ) (indent : List ℕ) (level : ℕ) (eol name model out out' : List ℕ)
    (f r : Filled) : Type 0 where
  pub text : Compared model out out' f.at (eol ++ lay indent level (name ++ 44 ∷ [])) r.at
  pub column : r.column ≡ Some (record { 0 = measure ruler 0 (times level indent ++ with_comma (decode name)) })
  pub small : column_of r.column ≤ last_indent + 255 * length name + 255

pub record AddedTo (ruler : ℕ) (lines lines' : List (List ℕ)) (eol model out out' : List ℕ)
    (f r : Filled) : Type 0 where
  pub column : NewestAt ruler lines' r
  pub grown : List ℕ
  pub text : Compared model out out' f.at grown r.at
  pub grows : names_text eol lines' ≡ names_text eol lines ++ grown

pub record Added (ruler : ℕ) (indent : List ℕ) (level : ℕ) (eol : List ℕ) (max : ℕ) (name model out out' : List ℕ)
    (f r : Filled) : Type 0 where
  pub to : (lines : List (List ℕ)) → NewestAt ruler lines f
      → AddedTo ruler lines (add_name (indented indent ruler) max (times level indent) lines (decode name)) eol model out
      out' f r
  pub small : (n : ℕ) → last_indent ≤ n → column_of f.column ≤ n → column_of r.column ≤ n + 255 * length name + 510
  pub room : r.at ≤ f.at + (67108931 + length name)

pub record NamesFit (s indent : List ℕ) (level : ℕ) (eol : List ℕ) (at : ℕ) : Type 0 where
  pub well : WellFormed s
  pub short : length s < 2 ^ 31
  pub indents : Indent indent level
  pub end : length eol ≤ 2
  pub room : at + (length s + 1) * line_room < 2 ^ 64

pub record NamesWritten (ruler : ℕ) (s indent : List ℕ) (level : ℕ) (eol : List ℕ) (max : ℕ) (model out out' : List ℕ)
    (at : ℕ) (r : NameLines) : Type 0 where
  pub text : Compared model out out' at
      (names_text eol (fill_names (indented indent ruler) max (times level indent) (names_of (parts s)))) r.next
  pub room : r.next ≤ at + (length s + 1) * line_room
  pub blanks : r.blanks ≡ blanks_of (parts s)
