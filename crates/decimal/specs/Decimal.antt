-- A number in decimal digits, as ASCII bytes.
use Rattle.std.specs.Prelude.{ℕ, zero, suc, ◌+◌, ◌/◌, ◌%◌, ◌≤◌, cond, List, [], ◌∷◌, ◌++◌, ◌≡◌, ltb, length, drop}
use Rattle.buffer.specs.Buffer.{Appended}

-- the digit d; `0` is 48
abbrev pub digit : ℕ → List ℕ
digit d = (48 + d) ∷ []

-- the digits of n, the most significant first, if k divisions by ten are enough
unfoldable pub digits_within : ℕ → ℕ → List ℕ
digits_within zero n = digit n
digits_within (suc k) n = cond (ltb n 10) (digit n) (digits_within k (n / 10) ++ digit (n % 10))

-- n in decimal, with no zeros in front: n divisions are enough
unfoldable pub digits : ℕ → List ℕ
digits n = digits_within n n

-- the digits of n stand at the end of room, from r on
pub record Spelled (room : List ℕ) (n r : ℕ) : Type 0 where
  pub from : r ≤ length room
  pub is : drop r room ≡ digits n

-- n's digits are appended to x at the place at; r is the next place
pub record DecimalPut (x x' : List ℕ) (at n r : ℕ) : Type 0 where
  pub appended : Appended x x' at (digits n) r
  pub short : r ≤ at + 20
