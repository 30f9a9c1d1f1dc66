-- What the contracts say of places in bytes.
use Rattle.std.specs.Prelude.{ℕ, ◌-◌, ◌≤◌, Bool, List, ◌≡◌, Option, Some, is_some, length, take, drop}
use Rattle.utf8.specs.Unicode.{decode, WellFormed}
use Rattle.utf8.specs.Places.{Column}
use Rattle.rules.specs.Basics.{count, split_on}
use Rattle.rules.specs.Lines.{drop_cr}
use Rattle.caret.specs.declared.LineColumn.{LineColumn}
use Rattle.caret.specs.declared.Past.{Past}
use Rattle.caret.specs.Caret.{past, is_place, place_of, line_of, column_of, moved_to}

-- the line that a text starts with, without its ending
unfoldable pub first_line : List ℕ → List ℕ
first_line l = drop_cr (split_on "\n" l).first

-- the n-th character that passes the test ends at the byte r.at, or so many are missing, and that is the end
pub record PastNth (p : ℕ → Bool) (s : List ℕ) (n : ℕ) (r : Past) : Type 0 where
  pub here : Column s (past p n (decode s)) r.at
  pub lacks : r.missing ≡ n - count p (decode s)

pub record PlaceFound (source : List ℕ) (line column : ℕ) (r : Option ℕ) : Type 0 where
  pub found : is_some r ≡ is_place line column (decode source)
  pub here : (at : ℕ) → r ≡ Some at → Column source (place_of line column (decode source)) at

-- the caret stands at the byte `at` of a source, whose text is well-formed too
pub record Standing (source : List ℕ) (at : ℕ) (text : List ℕ) : Type 0 where
  pub fits : at ≤ length source
  pub left : WellFormed (take at source)
  pub right : WellFormed (drop at source)
  pub well_text : WellFormed text

pub record LineColumnOf (l : List ℕ) (line column : ℕ) : Type 0 where
  pub is_line : line ≡ line_of l
  pub is_column : column ≡ column_of l

-- whether the line and the column are a place of the source, and the caret's line and column in the text
pub record CaretMoved (source text : List ℕ) (line column : ℕ) (r : Option LineColumn) : Type 0 where
  pub found : is_some r ≡ is_place line column (decode source)
  pub goes : (to : LineColumn) → r ≡ Some to → LineColumnOf (moved_to line column (decode source) (decode text))
      to.line to.column
