-- The strengths of the operators, from the host: a table of 11 bytes, read as 21 fields of 4 bits, and four zero bits.
use Rattle.std.specs.Prelude.{ℕ, ◌/◌, ◌%◌, List, [], ◌∷◌, length, take, get_or}
use Rattle.rules.specs.Operators.{operators}

abbrev pub table_length : ℕ
table_length = 11

-- the fields, the most significant of a byte first
unfoldable pub fields_of : List ℕ → List ℕ
fields_of [] = []
fields_of (b ∷ bs) = b / 16 % 16 ∷ b % 16 ∷ fields_of bs

-- a strength for each operator, in the order of 01's tightness list; 0 means never break there
unfoldable pub strengths_in : List ℕ → List ℕ
strengths_in table = take (length operators) (fields_of table)

-- the bits after them
unfoldable pub last_bits : List ℕ → ℕ
last_bits table = get_or (fields_of table) (length operators) 0

-- the table of 01's own strengths
abbrev pub built_in : List ℕ
built_in = 0x11 ∷ 0x23 ∷ 0x45 ∷ 0x66 ∷ 0x77 ∷ 0x77 ∷ 0x88 ∷ 0x9A ∷ 0xAB ∷ 0xBB ∷ 0xC0 ∷ []
