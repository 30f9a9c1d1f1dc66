-- The gaps between the characters that are kept: a source and its text differ in gaps alone.
use Rattle.std.specs.Prelude.{ℕ, ◌≤◌, ◌<◌, ◌^◌, Bool, true, false, not, List, [], ◌∷◌, ◌++◌, ◌≡◌, Option, length, drop}
use Rattle.utf8.specs.Unicode.{encode, decode, WellFormed, code_at}
use Rattle.utf8.specs.Places.{TakenAt}
use Rattle.buffer.specs.Buffer.{part}
use Rattle.rules.specs.Basics.{choose}
use Rattle.rules.specs.Demand3.{is_kept, strike}

-- the characters before the first kept one, and those after it
unfoldable pub gap : List ℕ → List ℕ
gap [] = []
gap (c ∷ cs) = choose (is_kept c) [] (c ∷ gap cs)

unfoldable pub after : List ℕ → List ℕ
after [] = []
after (c ∷ cs) = choose (is_kept c) cs (after cs)

-- White_Space or a comma
abbrev pub is_unkept : ℕ → Bool
is_unkept c = not (is_kept c)

-- none is kept
abbrev pub Unkept : List ℕ → Type 0
Unkept [] = Unit {0}
Unkept (c ∷ cs) = (is_kept c ≡ false) × Unkept cs

-- a source and a text, in bytes, of which the kept characters are the same
pub record Alike (source text : List ℕ) : Type 0 where
  pub long : length source < 2 ^ 60
  pub well_source : WellFormed source
  pub well_text : WellFormed text
  pub struck : strike (decode text) ≡ strike (decode source)

-- ---- what the contracts say of places in a list s of bytes

-- the character of an ASCII byte is not kept, if r is true
pub record GapByte (b : ℕ) (r : Bool) : Type 0 where
  pub is : b < 0x80 → is_kept b ≡ not r

-- a character starts at i, or s ends there
pub record From (s : List ℕ) (i : ℕ) : Type 0 where
  pub fits : i ≤ length s
  pub well : WellFormed (drop i s)

-- the character at i is not kept and takes so many bytes, or it is kept and r is None
abbrev pub UnkeptAt : List ℕ → ℕ → Option ℕ → Type 0
UnkeptAt s i r = TakenAt is_unkept s i r

-- the gap that starts at i ends at a
pub record GapEnd (s : List ℕ) (i a : ℕ) : Type 0 where
  pub from : i ≤ a
  pub fits : a ≤ length s
  pub well : WellFormed (drop a s)
  pub bytes : part s i a ≡ encode (gap (decode (drop i s)))
  pub chars : decode (drop i s) ≡ gap (decode (drop i s)) ++ decode (drop a s)
  pub stop : a < length s → is_kept (code_at (drop a s)) ≡ true
