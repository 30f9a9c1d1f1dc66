-- The lines of a text, and their kinds.
use Rattle.std.specs.Prelude.{ℕ, ◌+◌, ◌-◌, Bool, false, ◌&&◌, ◌||◌, List, [], ◌∷◌, map, eqb, ltb, length, drop, take}
use Rattle.utf8.specs.Unicode.{within, trim}
use Rattle.rules.specs.Basics.{choose, is, is_empty, first_is, last_is, split_on, pieces}

pub data Line : Type 0 where
  nothing : Line  -- blank, a comment, or none of the kinds
  header : List ℕ → Line
  pair : List ℕ → List ℕ → Line

-- keys and values are compared without regard to the case of the ASCII letters
unfoldable pub lower : List ℕ → List ℕ
lower l = map (λ (c : ℕ). choose (within 65 90 c) (c + 32) c) l

-- what stands before the first `=`, and what after it
unfoldable pub has_eq : List ℕ → Bool
has_eq [] = false
has_eq (c ∷ s) = is "=" c || has_eq s

unfoldable pub key : List ℕ → List ℕ
key [] = []
key (c ∷ s) = let r = c ∷ key s in choose (is "=" c) [] r

unfoldable pub setting : List ℕ → List ℕ
setting [] = []
setting (c ∷ s) = choose (is "=" c) s (setting s)

unfoldable pub is_comment : List ℕ → Bool
is_comment l = first_is (is ";") l || first_is (is "#") l

unfoldable pub is_header : List ℕ → Bool
is_header l = first_is (is "[") l && last_is (is "]") l && ltb 1 (length l)

-- a trimmed line
unfoldable pub line_of : List ℕ → Line
line_of l =
    choose (is_empty l || is_comment l) nothing
    (choose (is_header l) (header (take (length l - 2) (drop 1 l)))
    (choose (has_eq l) (pair (lower (trim (key l))) (lower (trim (setting l))))
    nothing))

-- one U+FEFF at the start is dropped
unfoldable pub without_bom : List ℕ → List ℕ
without_bom text = choose (first_is (eqb 0xFEFF) text) (drop 1 text) text

unfoldable pub lines_of : List ℕ → List Line
lines_of text = map (λ (l : List ℕ). line_of (trim l)) (pieces (split_on "\n" (without_bom text)))
