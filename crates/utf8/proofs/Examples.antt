-- The definitions, computed.
use Prim.Native.Nat.{ℕ, zero, suc, ◌<◌}
use mathlib.Core.Bool.{true, false, cond}
use mathlib.Core.List.{List, [], ◌∷◌, map}
use mathlib.Core.Path.{◌≡◌, refl}
use native.Mathlib.Omega.{arith}
use borrow.Author.Tests.{le-leb, lt-leb, ne_eqb}
use Rattle.utf8.specs.Unicode.{is_scalar, encode_char, encode, tail, second, seq_len, code_of, chars, decode, prefix_len, well_formed, units, width, is_white, trim_start, cons_trimmed, trim_end, trim}

-- ---- UTF-8

scalars : map is_scalar (0xD7FF ∷ 0xD800 ∷ 0xDFFF ∷ 0xE000 ∷ 0x10FFFF ∷ 0x110000 ∷ []) ≡ true ∷ false ∷ false ∷ true ∷ true ∷ false ∷ []
unfolding is_scalar
scalars = refl

-- the first and the last character of each row of Table 3-7
ends : List ℕ
ends =
    0x00 ∷ 0x7F ∷ 0x80 ∷ 0x7FF ∷ 0x800 ∷ 0xFFF ∷ 0x1000 ∷ 0xCFFF ∷ 0xD000 ∷ 0xD7FF ∷ 0xE000 ∷ 0xFFFF ∷ 0x10000 ∷ 0x3FFFF ∷ 0x40000 ∷ 0xFFFFF ∷ 0x100000
    ∷ 0x10FFFF ∷ []

-- their bytes, as the table gives them
bytes : List ℕ
bytes =
    0x00 ∷ 0x7F
    ∷ 0xC2 ∷ 0x80 ∷ 0xDF ∷ 0xBF
    ∷ 0xE0 ∷ 0xA0 ∷ 0x80 ∷ 0xE0 ∷ 0xBF ∷ 0xBF
    ∷ 0xE1 ∷ 0x80 ∷ 0x80 ∷ 0xEC ∷ 0xBF ∷ 0xBF
    ∷ 0xED ∷ 0x80 ∷ 0x80 ∷ 0xED ∷ 0x9F ∷ 0xBF
    ∷ 0xEE ∷ 0x80 ∷ 0x80 ∷ 0xEF ∷ 0xBF ∷ 0xBF
    ∷ 0xF0 ∷ 0x90 ∷ 0x80 ∷ 0x80 ∷ 0xF0 ∷ 0xBF ∷ 0xBF ∷ 0xBF
    ∷ 0xF1 ∷ 0x80 ∷ 0x80 ∷ 0x80 ∷ 0xF3 ∷ 0xBF ∷ 0xBF ∷ 0xBF
    ∷ 0xF4 ∷ 0x80 ∷ 0x80 ∷ 0x80 ∷ 0xF4 ∷ 0x8F ∷ 0xBF ∷ 0xBF ∷ []

encoded : encode ends ≡ bytes
unfolding ends bytes encode encode_char
encoded = refl

decoded : decode bytes ≡ ends
unfolding ends bytes chars seq_len code_of tail second
decoded = refl

accepted : well_formed bytes ≡ true
unfolding bytes well_formed encode encode_char chars seq_len code_of tail second
accepted = refl

-- lists that are not well-formed, each after one letter
after : List ℕ → ℕ
after s = prefix_len (0x61 ∷ s)

-- a tail alone, FF, F5; overlong forms of two, three and four bytes; a surrogate, which UTF-16 needs and UTF-8 has none
-- of; past U+10FFFF
refused : map after
    ((0x80 ∷ []) ∷ (0xFF ∷ []) ∷ (0xF5 ∷ 0x80 ∷ 0x80 ∷ 0x80 ∷ []) ∷ (0xC0 ∷ 0x80 ∷ []) ∷ (0xC1 ∷ 0xBF ∷ []) ∷ (0xE0 ∷ 0x80 ∷ 0x80 ∷ [])
    ∷ (0xE0 ∷ 0x9F ∷ 0xBF ∷ []) ∷ (0xF0 ∷ 0x80 ∷ 0x80 ∷ 0x80 ∷ []) ∷ (0xF0 ∷ 0x8F ∷ 0xBF ∷ 0xBF ∷ []) ∷ (0xED ∷ 0xA0 ∷ 0x80 ∷ [])
    ∷ (0xED ∷ 0xBF ∷ 0xBF ∷ []) ∷ (0xF4 ∷ 0x90 ∷ 0x80 ∷ 0x80 ∷ []) ∷ [])
    ≡ 1 ∷ 1 ∷ 1 ∷ 1 ∷ 1 ∷ 1 ∷ 1 ∷ 1 ∷ 1 ∷ 1 ∷ 1 ∷ 1 ∷ []
unfolding after encode encode_char chars seq_len code_of tail second
refused = refl

-- sequences cut short, at the end and before another character; what stands before them is the prefix
cut_short : map after
    ((0xC2 ∷ []) ∷ (0xE2 ∷ 0x82 ∷ []) ∷ (0xF0 ∷ 0x9F ∷ 0x98 ∷ []) ∷ (0xE2 ∷ 0x82 ∷ 0x61 ∷ []) ∷ (0xC3 ∷ 0xA9 ∷ 0xE2 ∷ 0x82 ∷ [])
    ∷ (0xF0 ∷ 0x9F ∷ 0x98 ∷ 0x80 ∷ 0xF0 ∷ 0x9F ∷ [])
    ∷ [])
    ≡ 1 ∷ 1 ∷ 1 ∷ 1 ∷ 3 ∷ 5 ∷ []
unfolding after encode encode_char chars seq_len code_of tail second
cut_short = refl

-- ---- UTF-16: `"` U+1F600 `" + b` is 8 units

eight : width (0x22 ∷ 0x1F600 ∷ 0x22 ∷ 0x20 ∷ 0x2B ∷ 0x20 ∷ 0x62 ∷ []) ≡ 8
unfolding width units
eight = refl

-- ---- White_Space: of the first 3001 hex characters these 25, and none after them

white : ℕ → ℕ → List ℕ
white c zero = []
white c (suc n) = cond (is_white c) (c ∷ white (suc c) n) (white (suc c) n)

twenty_five : white 0 0x3001 ≡
    0x09 ∷ 0x0A ∷ 0x0B ∷ 0x0C ∷ 0x0D ∷ 0x20 ∷ 0x85 ∷ 0xA0 ∷ 0x1680 ∷ 0x2000 ∷ 0x2001 ∷ 0x2002 ∷ 0x2003 ∷ 0x2004 ∷ 0x2005 ∷ 0x2006 ∷ 0x2007 ∷ 0x2008 ∷ 0x2009
    ∷ 0x200A ∷ 0x2028 ∷ 0x2029 ∷ 0x202F ∷ 0x205F ∷ 0x3000 ∷ []
unfolding white is_white
twenty_five = refl

no_more : (c : ℕ) → 0x3000 < c → is_white c ≡ false
unfolding is_white
no_more c h =
    simp (
      le-leb 0x09 c (omega arith),
      lt-leb c 0x0D (omega arith),
      ne_eqb c 0x20 (omega arith),
      ne_eqb c 0x85 (omega arith),
      ne_eqb c 0xA0 (omega arith),
      ne_eqb c 0x1680 (omega arith),
      le-leb 0x2000 c (omega arith),
      lt-leb c 0x200A (omega arith),
      ne_eqb c 0x2028 (omega arith),
      ne_eqb c 0x2029 (omega arith),
      ne_eqb c 0x202F (omega arith),
      ne_eqb c 0x205F (omega arith),
      ne_eqb c 0x3000 (omega arith),
    )

-- the information separators, U+180E, U+200B and U+FEFF are none
none : map is_white (0x1C ∷ 0x1D ∷ 0x1E ∷ 0x1F ∷ 0x180E ∷ 0x200B ∷ 0xFEFF ∷ []) ≡ false ∷ false ∷ false ∷ false ∷ false ∷ false ∷ false ∷ []
unfolding is_white
none = refl

trims : trim (0x3000 ∷ 0x09 ∷ 0x61 ∷ 0x20 ∷ 0x62 ∷ 0x2003 ∷ 0x85 ∷ []) ≡ 0x61 ∷ 0x20 ∷ 0x62 ∷ []
unfolding trim trim_start trim_end cons_trimmed is_white
trims = refl
