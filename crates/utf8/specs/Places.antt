-- What the contracts say of places in a list s of bytes.
use Rattle.std.specs.Prelude.{ℕ, ◌+◌, ◌-◌, ◌<◌, ◌≤◌, Bool, true, false, cond, List, [], ◌∷◌, ◌++◌, ◌≡◌, length, get_or, take, drop, T, ltb, Option, None, Some, is_some}
use Rattle.std.specs.List.{take_while}
use Rattle.utf8.specs.Unicode.{is_scalar, encode_char, encode, code_at, decode, prefix_len, WellFormed, is_white}
use Rattle.utf8.specs.Unicode.{trim_start, trim_end}
pub use Rattle.blocks.specs.Blocks.{NoneAmong}

-- the byte at i is not ASCII
abbrev pub high_at : List ℕ → ℕ → Bool
high_at s i = ltb 127 (get_or s i 0)

-- the bytes from `at` up to r are ASCII
pub record AsciiRun (s : List ℕ) (at r : ℕ) : Type 0 where
  pub from : at ≤ r
  pub within : r ≤ length s
  pub ascii : (j : ℕ) → at + j < r → get_or s (at + j) 0 < 0x80

-- the character at i takes n bytes
pub record Step (s : List ℕ) (i n : ℕ) : Type 0 where
  pub some : 0 < n
  pub fits : i + n ≤ length s
  pub scalar : T (is_scalar (code_at (drop i s)))
  pub chars : decode (drop i s) ≡ code_at (drop i s) ∷ decode (drop (i + n) s)
  pub bytes : drop i s ≡ encode_char (code_at (drop i s)) ++ drop (i + n) s
  pub long : length (encode_char (code_at (drop i s))) ≡ n
  pub well : WellFormed (drop i s) → WellFormed (drop (i + n) s)
  pub prefix : prefix_len (drop i s) ≡ n + prefix_len (drop (i + n) s)

-- the character before e takes r bytes, and what stands before it is well-formed
pub record Back (s : List ℕ) (e r : ℕ) : Type 0 where
  pub some : 0 < r
  pub fits : r ≤ e
  pub well : WellFormed (take (e - r) s)
  pub text : decode (take e s) ≡ decode (take (e - r) s) ++ (code_at (drop (e - r) s) ∷ [])

-- p takes the character at i, which has r bytes, or p does not take it and r is None
pub record TakenAt (p : ℕ → Bool) (s : List ℕ) (i : ℕ) (r : Option ℕ) : Type 0 where
  pub is : p (code_at (drop i s)) ≡ is_some r
  pub step : (n : ℕ) → r ≡ Some n → Step s i n

-- a test may be made, by pre, where a character starts, and tells, by post, what p says of it
abbrev pub TellsChars : (ℕ → Type 0) → (ℕ → Option ℕ → Type 0) → (ℕ → Bool) → List ℕ → Type 0
TellsChars pre post p s =
    ((i : ℕ) → i < length s → WellFormed (drop i s) → pre i)
    × ((i : ℕ) → (r : Option ℕ) → i < length s → post i r → TakenAt p s i r)

-- what p says of white space
abbrev pub WhiteAt : List ℕ → ℕ → Option ℕ → Type 0
WhiteAt s i r = TakenAt is_white s i r

-- from `from` up to r stand the characters that p takes, and p does not take the one at r, or s ends there
pub record PastChars (p : ℕ → Bool) (s : List ℕ) (from r : ℕ) : Type 0 where
  pub on : from ≤ r
  pub fits : r ≤ length s
  pub well : WellFormed (drop r s)
  pub bytes : take (r - from) (drop from s) ≡ encode (take_while p (decode (drop from s)))
  pub chars : decode (drop from s) ≡ take_while p (decode (drop from s)) ++ decode (drop r s)
  pub stop : r < length s → p (code_at (drop r s)) ≡ false

-- the character before e is white space and takes r bytes, or it is none
pub record WhiteBefore (s : List ℕ) (e : ℕ) (r : Option ℕ) : Type 0 where
  pub white : (n : ℕ) → r ≡ Some n → Back s e n × (is_white (code_at (drop (e - n) s)) ≡ true)
  pub other : r ≡ None → (n : ℕ) × Back s e n × (is_white (code_at (drop (e - n) s)) ≡ false)

-- from r on, s is its characters trimmed at their start
pub record TrimmedStart (s : List ℕ) (r : ℕ) : Type 0 where
  pub fits : r ≤ length s
  pub well : WellFormed (drop r s)
  pub text : decode (drop r s) ≡ trim_start (decode s)

-- behind i no character is gone that trimming at the start would leave
pub record SpacesPassed (s : List ℕ) (i : ℕ) : Type 0 where
  pub fits : i ≤ length s
  pub well : WellFormed (drop i s)
  pub text : trim_start (decode s) ≡ trim_start (decode (drop i s))

-- up to r, s is its characters trimmed at their end
pub record TrimmedEnd (s : List ℕ) (r : ℕ) : Type 0 where
  pub fits : r ≤ length s
  pub well : WellFormed (take r s)
  pub text : decode (take r s) ≡ trim_end (decode s)

-- i bytes are the first k characters of s, or all of s where it has fewer
pub record Column (s : List ℕ) (k i : ℕ) : Type 0 where
  pub fits : i ≤ length s
  pub well : WellFormed (drop i s)
  pub text : decode (drop i s) ≡ drop k (decode s)

-- ---- what a byte counts for, in a well-formed text

-- the UTF-16 units of the character that it starts, and 0 where it starts none
unfoldable pub units_of : ℕ → ℕ
units_of b = cond (ltb b 0x80) 1 (cond (ltb b 0xC0) 0 (cond (ltb b 0xF0) 1 2))

-- 1 where it starts a character
unfoldable pub lead_of : ℕ → ℕ
lead_of b = cond (ltb b 0x80) 1 (cond (ltb b 0xC0) 0 1)

-- the sum of f over a list
abbrev pub total : (ℕ → ℕ) → List ℕ → ℕ
total f [] = 0
total f (x ∷ xs) = f x + total f xs
