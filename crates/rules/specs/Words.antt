-- The words and operators that a line starts with, and the marker: fixed texts that are compared.
use Rattle.std.specs.Prelude.{ℕ, Bool, true, false, not, ◌&&◌, ◌||◌, List, [], ◌∷◌, drop}
use Rattle.utf8.specs.Unicode.{is_white, trim, trim_start}
use Rattle.rules.specs.Basics.{is, codes, at, same, leading, starts_then, is_empty, is_blank}
use Rattle.rules.specs.Operators.{operators}
use Rattle.rules.specs.Scan.{Cell, chars_of, code_part, comment_part}

-- a space, a tab or nothing follows the word
unfoldable pub starts_with_word : List ℕ → List ℕ → Bool
starts_with_word line word = starts_then word is_blank true line

unfoldable pub white_or_paren : ℕ → Bool
white_or_paren c = is_white c || is "(" c

unfoldable pub starts_with_one_of : List (List ℕ) → List ℕ → Bool
starts_with_one_of [] line = false
starts_with_one_of (op ∷ ops) line = starts_then op white_or_paren false line || starts_with_one_of ops line

-- one of the 21 binary operators before white space or `(`
unfoldable pub starts_with_binary_op : List ℕ → Bool
starts_with_binary_op line = starts_with_one_of operators line

-- both start with the same of `in `, `out `, `var `
unfoldable pub same_declaration : List ℕ → List ℕ → Bool
same_declaration a b = (at a "in " && at b "in ") || (at a "out " && at b "out ") || (at a "var " && at b "var ")

-- without its leading slashes
unfoldable pub drop_slashes : List ℕ → List ℕ
drop_slashes comment = drop (leading (is "/") comment) comment

-- the comment starts `//` but not `///`, and after its leading slashes and trimming it is exactly `fmt-ignore`
unfoldable pub is_marker_text : List ℕ → Bool
is_marker_text comment =
    at comment "//" && not (at comment "///") && same (trim (drop_slashes comment)) (codes "fmt-ignore")

unfoldable pub is_marker : List Cell → Bool
is_marker cells = is_marker_text (chars_of (comment_part cells))

-- anything but white space stands before the comment
unfoldable pub has_code : List Cell → Bool
has_code cells = not (is_empty (trim_start (chars_of (code_part cells))))
