-- Ranges: what is kept, for each j, of the number that the first j characters of a string are. A slot j + 1 comes from
-- slot j by one character more.
use Rattle.std.specs.Prelude.{ℕ, zero, suc, ◌+◌, ◌-◌, ◌*◌, Bool, true, false, not, ◌&&◌, ◌||◌, List, [], ◌∷◌, ltb, eqb, length, get_or, take, drop}
use Rattle.std.specs.Ordering.{nat_cmp, ordering_then, is_eq, is_le, is_ge}
use Rattle.std.specs.declared.cmp.Ordering.{Ordering}
use Rattle.rules.specs.Basics.{choose, is, first_is}
use Rattle.config_rules.specs.Numbers.{is_digit, value, sign}
use Rattle.config_rules.specs.Globs.{Strings, some_then}

unfoldable pub digit : ℕ → ℕ
digit c = c - 48

-- the order of two numbers after one digit on each is put before them
unfoldable pub order_then : ℕ → ℕ → Ordering → Ordering
order_then d e o = ordering_then (nat_cmp d e) o

-- whether the first j characters are digits and k holds of the rest; the order of their value against the lowest j
-- digits of an end, r
unfoldable pub valid : Strings → ℕ → List ℕ → Bool
valid k zero s = k s
valid k (suc j) [] = false
valid k (suc j) (c ∷ s) = is_digit c && valid k j s

unfoldable pub order_at : List ℕ → ℕ → List ℕ → Ordering
order_at r zero s = Ordering.Equal
order_at r (suc j) [] = Ordering.Equal
order_at r (suc j) (c ∷ s) = order_then (digit c) (digit (get_or r j 48)) (order_at r j s)

-- ---- a number x against an end of the range: the end's sign, whether it is 0, and the order of x against its value

unfoldable pub not_above : Bool → Bool → Ordering → Bool
not_above minus none o = choose minus (none && is_eq o) (is_le o)

unfoldable pub not_below : Bool → Ordering → Bool
not_below minus o = minus || is_ge o

unfoldable pub inside : Bool → Bool → Ordering → Bool → Bool → Ordering → Bool
inside a x o b y q = (not_below a o && not_above b y q) || (not_below b q && not_above a x o)

-- one of the numbers of 1 to w characters passes
unfoldable pub near : (ℕ → Bool) → Strings → ℕ → List ℕ → Bool
near f k zero s = false
near f k (suc j) s = near f k j s || (valid k (suc j) s && f (value (take (suc j) s)))

-- the order against a whole end, from that against its lowest digits: less, where a higher digit is not 0
abbrev pub whole_of : Bool → Ordering → Ordering
whole_of high o = choose high Ordering.Less o

-- a range's two ends: their signs, and whether they are 0
abbrev pub inside_of : Bool → Bool → Bool → Bool → Ordering → Ordering → Bool
inside_of a x b y o q = inside a x o b y q

-- ---- what is meant: numbers whose value passes a test, and ends by their digits, the lowest first

unfoldable pub all_digits : List ℕ → Bool
all_digits [] = true
all_digits (c ∷ l) = is_digit c && all_digits l

unfoldable pub all : List ℕ → ℕ
all [] = 0
all (c ∷ r) = digit c + 10 * all r

unfoldable pub number : (ℕ → Bool) → Strings
number f l = all_digits l && (ltb 0 (length l) && f (value l))

-- a beginning of j characters or more passes, then k
unfoldable pub from : Strings → Strings → ℕ → List ℕ → Bool
from p k zero s = some_then p k s
from p k (suc j) [] = false
from p k (suc j) (c ∷ s) = from (λ (l : List ℕ). p (c ∷ l)) k j s

abbrev pub farther : (ℕ → Bool) → Strings → ℕ → Strings
farther f k w s = from (number f) k (suc w) s

-- an end as it stands in the name: its sign and its value; where a digit at place j or above is not 0
abbrev pub minus : List ℕ → Bool
minus m = first_is (is "-") m

unfoldable pub size : List ℕ → ℕ
size m = value (drop (sign m) m)

unfoldable pub in_plain : List ℕ → List ℕ → ℕ → Bool
in_plain m n x = inside (minus m) (eqb (size m) 0) (nat_cmp x (size m)) (minus n) (eqb (size n) 0) (nat_cmp x (size n))

unfoldable pub in_minus : List ℕ → List ℕ → ℕ → Bool
in_minus m n x =
    inside (not (minus m)) (eqb (size m) 0) (nat_cmp x (size m)) (not (minus n)) (eqb (size n) 0) (nat_cmp x (size n))
