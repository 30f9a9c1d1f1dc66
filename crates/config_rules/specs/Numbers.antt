-- Numbers as ranges and paths write them: digits after an optional minus.
use Rattle.std.specs.Prelude.{ℕ, suc, ◌+◌, ◌-◌, ◌*◌, Bool, ◌&&◌, ◌||◌, eqb, leb, ltb, length, drop}
use mathlib.Core.List.{List, [], ◌∷◌, foldl}
use Rattle.utf8.specs.Unicode.{within}
use Rattle.rules.specs.Basics.{choose, is, first_is}

abbrev pub is_digit : ℕ → Bool
is_digit c = within 48 57 c

-- how many digits s starts with
unfoldable pub digit_count : List ℕ → ℕ
digit_count [] = 0
digit_count (c ∷ s) = let r = suc (digit_count s) in choose (is_digit c) r 0

unfoldable pub sign : List ℕ → ℕ
sign s = choose (first_is (is "-") s) 1 0

-- how long the number is that s starts with, 0 for none
unfoldable pub number_len : List ℕ → ℕ
number_len s = choose (eqb (digit_count (drop (sign s) s)) 0) 0 (sign s + digit_count (drop (sign s) s))

unfoldable pub is_number : List ℕ → Bool
is_number l = ltb 0 (number_len l) && eqb (number_len l) (length l)

unfoldable pub value : List ℕ → ℕ
value l = foldl (λ (n : ℕ) (c : ℕ). n * 10 + (c - 48)) 0 l

-- a number is `up` less `down`
abbrev pub up : List ℕ → ℕ
up l = choose (first_is (is "-") l) 0 (value l)

abbrev pub down : List ℕ → ℕ
down l = choose (first_is (is "-") l) (value (drop 1 l)) 0

unfoldable pub at_most : List ℕ → List ℕ → Bool
at_most l m = leb (up l + down m) (up m + down l)

-- l is a number from m to n, whose order is either
unfoldable pub in_range : List ℕ → List ℕ → List ℕ → Bool
in_range m n l = is_number l && ((at_most m l && at_most l n) || (at_most n l && at_most l m))
