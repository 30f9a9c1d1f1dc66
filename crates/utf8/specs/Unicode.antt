-- Unicode: scalar values, UTF-8, UTF-16 lengths and White_Space. A character is its code point, a text a list of them;
-- a byte is a number too.
use Rattle.std.specs.Prelude.{ℕ, zero, suc, pred, ◌+◌, ◌*◌, ◌/◌, ◌%◌, Bool, false, cond, ◌&&◌, ◌||◌, List, [], ◌∷◌, ◌++◌, ◌≡◌, length, get_or, T, leb, ltb, eqb}

-- lo ≤ c ≤ hi
abbrev pub within : ℕ → ℕ → ℕ → Bool
within lo hi c = leb lo c && leb c hi

-- ---- scalar values: every code point but the surrogates

unfoldable pub is_scalar : ℕ → Bool
is_scalar c = ltb c 0xD800 || within 0xE000 0x10FFFF c

abbrev pub Scalars : List ℕ → Type 0
Scalars [] = Unit {0}
Scalars (c ∷ cs) = T (is_scalar c) × Scalars cs

-- ---- UTF-8, written (Unicode, Table 3-6)

unfoldable pub encode_char : ℕ → List ℕ
encode_char c =
    cond (ltb c 0x80) (c ∷ [])
    (cond (ltb c 0x800) ((0xC0 + c / 64) ∷ (0x80 + c % 64) ∷ [])
    (cond (ltb c 0x10000) ((0xE0 + c / 4096) ∷ (0x80 + c / 64 % 64) ∷ (0x80 + c % 64) ∷ [])
    ((0xF0 + c / 262144) ∷ (0x80 + c / 4096 % 64) ∷ (0x80 + c / 64 % 64) ∷ (0x80 + c % 64) ∷ [])))

unfoldable pub encode : List ℕ → List ℕ
encode [] = []
encode (c ∷ cs) = encode_char c ++ encode cs

-- the length of a text in UTF-8
abbrev pub size : List ℕ → ℕ
size cs = length (encode cs)

-- ---- UTF-8, read (Unicode, Table 3-7)

-- a byte 80..BF, which no sequence starts with
unfoldable pub tail : ℕ → Bool
tail b = within 0x80 0xBF b

-- the second byte of a sequence of three or four, after its first byte
unfoldable pub second : ℕ → ℕ → Bool
second b0 b1 =
    cond (eqb b0 0xE0) (within 0xA0 0xBF b1)
    (cond (eqb b0 0xED) (within 0x80 0x9F b1)
    (cond (eqb b0 0xF0) (within 0x90 0xBF b1)
    (cond (eqb b0 0xF4) (within 0x80 0x8F b1)
    (within 0x80 0xBF b1))))

-- the length of the well-formed sequence that four bytes start with, or 0. A byte past the end is given as 0, which is
-- no tail.
unfoldable pub seq_len : ℕ → ℕ → ℕ → ℕ → ℕ
seq_len b0 b1 b2 b3 =
    cond (ltb b0 0x80) 1
    (cond (ltb b0 0xC2) 0
    (cond (ltb b0 0xE0) (cond (tail b1) 2 0)
    (cond (ltb b0 0xF0) (cond (second b0 b1 && tail b2) 3 0)
    (cond (ltb b0 0xF5) (cond (second b0 b1 && tail b2 && tail b3) 4 0)
    0))))

-- the code point of that sequence: the low bits of its bytes
unfoldable pub code_of : ℕ → ℕ → ℕ → ℕ → ℕ
code_of b0 b1 b2 b3 =
    cond (ltb b0 0x80) b0
    (cond (ltb b0 0xE0) (b0 % 32 * 64 + b1 % 64)
    (cond (ltb b0 0xF0) (b0 % 16 * 4096 + b1 % 64 * 64 + b2 % 64)
    (b0 % 8 * 262144 + b1 % 64 * 4096 + b2 % 64 * 64 + b3 % 64)))

-- the same two for the bytes that s starts with; s is not empty
abbrev pub seq_at : List ℕ → ℕ
seq_at s = seq_len (get_or s 0 0) (get_or s 1 0) (get_or s 2 0) (get_or s 3 0)

abbrev pub code_at : List ℕ → ℕ
code_at s = code_of (get_or s 0 0) (get_or s 1 0) (get_or s 2 0) (get_or s 3 0)

-- nothing where the sequence has no length, else the character and what follows it
abbrev pub next : ℕ → ℕ → List ℕ → List ℕ
next zero c cs = []
next (suc n) c cs = c ∷ cs

-- the characters after k bytes are skipped, up to the first place where no well-formed sequence starts
unfoldable pub chars : ℕ → List ℕ → List ℕ
chars k [] = []
chars zero (b ∷ s) = next (seq_at (b ∷ s)) (code_at (b ∷ s)) (chars (pred (seq_at (b ∷ s))) s)
chars (suc k) (b ∷ s) = chars k s

-- the characters of the longest well-formed prefix
abbrev pub decode : List ℕ → List ℕ
decode s = chars 0 s

-- the length of that prefix
abbrev pub prefix_len : List ℕ → ℕ
prefix_len s = size (decode s)

-- s is well-formed: it is the encoding of the characters read from it
abbrev pub WellFormed : List ℕ → Type 0
WellFormed s = encode (decode s) ≡ s

-- the same as a test: the prefix is all of s
unfoldable pub well_formed : List ℕ → Bool
well_formed s = eqb (prefix_len s) (length s)

-- ---- UTF-16: how many units a character, and a text, takes

unfoldable pub units : ℕ → ℕ
units c = cond (ltb c 0x10000) 1 2

unfoldable pub width : List ℕ → ℕ
width [] = 0
width (c ∷ cs) = units c + width cs

-- ---- White_Space, and trimming

-- U+0009 to U+000D, U+0020, U+0085, U+00A0, U+1680, U+2000 to U+200A, U+2028, U+2029, U+202F, U+205F, U+3000
unfoldable pub is_white : ℕ → Bool
is_white c =
    within 0x09 0x0D c || eqb c 0x20 || eqb c 0x85 || eqb c 0xA0 || eqb c 0x1680 || within 0x2000 0x200A c
    || eqb c 0x2028 || eqb c 0x2029 || eqb c 0x202F || eqb c 0x205F || eqb c 0x3000

-- whether a text starts with white space
abbrev pub first_is_white : List ℕ → Bool
first_is_white [] = false
first_is_white (c ∷ cs) = is_white c

-- a text without the white space at its start
unfoldable pub trim_start : List ℕ → List ℕ
trim_start [] = []
trim_start (c ∷ cs) = cond (is_white c) (trim_start cs) (c ∷ cs)

-- c before a text that is trimmed at its end
unfoldable pub cons_trimmed : ℕ → List ℕ → List ℕ
cons_trimmed c [] = cond (is_white c) [] (c ∷ [])
cons_trimmed c (d ∷ ds) = c ∷ d ∷ ds

-- a text without the white space at its end
unfoldable pub trim_end : List ℕ → List ℕ
trim_end [] = []
trim_end (c ∷ cs) = cons_trimmed c (trim_end cs)

unfoldable pub trim : List ℕ → List ℕ
trim l = trim_end (trim_start l)
