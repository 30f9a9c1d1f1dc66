-- A plain `else`, and the line that it joins.
use Rattle.std.specs.Prelude.{ℕ, Bool, true, false, not, ◌&&◌, ◌||◌, List, [], ◌∷◌, ◌++◌, drop}
use Rattle.utf8.specs.Unicode.{is_white, trim_start, trim_end}
use Rattle.rules.specs.Basics.{is, codes, at, starts_then, first_is, last_is, is_ident}

-- white space and the word `if` follow
unfoldable pub starts_if : List ℕ → Bool
starts_if rest = first_is is_white rest && starts_then (codes "if") (λ c. not (is_ident c)) true (trim_start rest)

unfoldable pub white_or_brace : ℕ → Bool
white_or_brace c = is_white c || is "{" c

unfoldable pub is_plain_else : List ℕ → Bool
is_plain_else line = starts_then (codes "else") white_or_brace true line && not (starts_if (drop 4 line))

-- trimmed at its end, the line ends in `}`; trimmed at its start, it doesn't start with `else`
unfoldable pub joinable : List ℕ → Bool
joinable last = last_is (is "}") (trim_end last) && not (at (trim_start last) "else")

-- the newest line can take the else
unfoldable pub can_join : List (List ℕ) → Bool
can_join [] = false
can_join (last ∷ before) = joinable last

-- the lines, the newest first, with the else joined to the newest by one space
unfoldable pub join_else : List ℕ → List (List ℕ) → List (List ℕ)
join_else line [] = line ∷ []
join_else line (last ∷ before) = (trim_end last ++ (codes " " ++ line)) ∷ before
