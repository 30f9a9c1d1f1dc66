-- Lines: cut at LF; one CR at a piece's end goes. The line ending that is kept.
use Rattle.std.specs.Prelude.{ℕ, ◌+◌, ◌-◌, Bool, ◌&&◌, List, [], ◌∷◌, map, ltb}
use Rattle.rules.specs.Basics.{choose, is, codes, pieces, split_on, first_is, last_is, count}
use Rattle.rules.specs.declared.LineEnding.{LineEnding}

-- the characters of a line ending
unfoldable pub as_str : LineEnding → List ℕ
as_str LineEnding.Lf = codes "\n"
as_str LineEnding.Crlf = codes "\r\n"

-- without one CR at its end
unfoldable pub drop_cr : List ℕ → List ℕ
drop_cr [] = []
drop_cr (c ∷ []) = choose (is "\r" c) [] (c ∷ [])
drop_cr (c ∷ d ∷ ds) = c ∷ drop_cr (d ∷ ds)

unfoldable pub lines_of : List ℕ → List (List ℕ)
lines_of source = map drop_cr (pieces (split_on "\n" source))

-- how many times CR LF stands in the text
unfoldable pub crlfs : List ℕ → ℕ
crlfs [] = 0
crlfs (c ∷ cs) = choose (is "\r" c && first_is (is "\n") cs) 1 0 + crlfs cs

-- "ending kept": CRLF if there are more CRLF than bare LF, else LF
unfoldable pub dominant_in : List ℕ → LineEnding
dominant_in source = choose (ltb (count (is "\n") source - crlfs source) (crlfs source)) LineEnding.Crlf LineEnding.Lf

unfoldable pub ends_in_lf : List ℕ → Bool
ends_in_lf source = last_is (is "\n") source
