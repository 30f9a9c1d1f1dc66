-- split_import: the names of an over-wide import, refilled over lines.
use Rattle.std.specs.Prelude.{ℕ, suc, ◌+◌, Bool, true, not, ◌&&◌, leb, length}
use Prim.Native.Char.{Char}
use mathlib.Core.List.{List, [], ◌∷◌, ◌++◌, foldl, reverse}
use Rattle.std.proofs.Math.Option.{Option, none, some}
use Rattle.utf8.specs.Unicode.{trim, trim_end}
use Rattle.rules.specs.Basics.{choose, is, codes, starts_then, pieces, split_on, is_empty, is_ident}
use Rattle.rules.specs.Scan.{Cell, chars_of, is_code, before, from}
use Rattle.rules.specs.Options.{Options, indent_of, over_wide}

-- the lines that one line becomes, in order, and what they add to the two counts
pub record Laid : Type 0 where
  pub lines : List (List ℕ)
  pub imports_split : ℕ
  pub blank_names : ℕ

-- x is the Code character k
abbrev pub code_is : Char → Cell → Bool
code_is k x = is_code x.class && is k x.ch

-- before the first Code character k, and from it on
abbrev pub before_code : Char → List Cell → List Cell
before_code k cells = before (code_is k) cells

abbrev pub from_code : Char → List Cell → List Cell
from_code k cells = from (code_is k) cells

-- the pieces, trimmed, that are not blank; and how many are blank
unfoldable pub cons_name : List ℕ → List (List ℕ) → List (List ℕ)
cons_name [] names = names
cons_name (c ∷ cs) names = (c ∷ cs) ∷ names

unfoldable pub names_of : List (List ℕ) → List (List ℕ)
names_of [] = []
names_of (p ∷ ps) = cons_name (trim p) (names_of ps)

unfoldable pub blanks_of : List (List ℕ) → ℕ
blanks_of [] = 0
blanks_of (p ∷ ps) = choose (is_empty (trim p)) 1 0 + blanks_of ps

abbrev pub with_comma : List ℕ → List ℕ
with_comma name = name ++ codes ","

-- one more name: on the newest line after a space if the width holds it, else on a line of its own
unfoldable pub add_name : Options → ℕ → List ℕ → List (List ℕ) → List ℕ → List (List ℕ)
add_name o max cont [] name = (cont ++ with_comma name) ∷ []
add_name o max cont (cur ∷ done) name =
    choose (over_wide o max (cur ++ (codes " " ++ with_comma name)))
    ((cont ++ with_comma name) ∷ cur ∷ done)
    ((cur ++ (codes " " ++ with_comma name)) ∷ done)

-- the lines of the names, the newest first
unfoldable pub fill_names : Options → ℕ → List ℕ → List (List ℕ) → List (List ℕ)
fill_names o max cont names = foldl (add_name o max cont) [] names

-- head is the text before the brace, tail the closing brace and all after it
unfoldable pub import_lines : Options → ℕ → ℕ → List ℕ → List (List ℕ) → List ℕ → List (List ℕ)
import_lines o max level head names tail =
    (indent_of o level ++ (trim_end head ++ codes " {"))
    ∷ (reverse (fill_names o max (indent_of o (suc level)) names) ++ ((indent_of o level ++ tail) ∷ []))

-- the text between the braces is cut at every comma; under two names, it isn't split
unfoldable pub import_parts : Options → ℕ → ℕ → List ℕ → List (List ℕ) → List ℕ → Option Laid
import_parts o max level head parts tail =
    choose (leb 2 (length (names_of parts)))
    (some (record {
      lines = import_lines o max level head (names_of parts) tail;
      imports_split = 1;
      blank_names = blanks_of parts;
    }))
    none

unfoldable pub closed_import : Options → ℕ → ℕ → List ℕ → List ℕ → List Cell → Option Laid
closed_import o max level head inside [] = none
closed_import o max level head inside (x ∷ xs) =
    import_parts o max level head (pieces (split_on "," inside)) (chars_of (x ∷ xs))

unfoldable pub opened_import : Options → ℕ → ℕ → List ℕ → List Cell → Option Laid
opened_import o max level head [] = none
opened_import o max level head (x ∷ xs) = closed_import o max level head (chars_of (before_code "}" xs)) (from_code "}" xs)

-- `import`, and no ASCII letter, digit or underscore is next
unfoldable pub starts_import : List ℕ → Bool
starts_import line = starts_then (codes "import") (λ c. not (is_ident c)) true line

unfoldable pub split_import : Options → ℕ → ℕ → List Cell → Option Laid
split_import o max level cells =
    choose (starts_import (chars_of cells))
    (opened_import o max level (chars_of (before_code "{" cells)) (from_code "{" cells))
    none
