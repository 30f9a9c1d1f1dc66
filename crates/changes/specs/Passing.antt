-- Bytes that are the same in a source and its text are passed together.
use Rattle.std.specs.Prelude.{ℕ, ◌+◌, ◌-◌, ◌≤◌, ◌<◌, Bool, true, not, ◌||◌, eqb, ltb, List, ◌⊎◌, ◌≡◌, Option, Some, length, get_or, drop}
use Rattle.utf8.specs.Unicode.{decode, WellFormed}
use Rattle.rules.specs.Demand3.{is_kept, strike}
use Rattle.changes.specs.Changes.{changes_from}

-- the bytes at k are not the same, or not ASCII
abbrev pub differ_at : List ℕ → List ℕ → ℕ → Bool
differ_at s t k = not (eqb (get_or s k 0) (get_or t k 0)) || ltb 127 (get_or s k 0)

abbrev pub KeptByte : ℕ → Type 0
KeptByte b = b < 0x80 → is_kept b ≡ true

-- r is k, and the byte is kept, or r is n
pub record Behind (b n k r : ℕ) : Type 0 where
  pub is : (r ≡ n) ⊎ ((r ≡ k) × KeptByte b)

-- the first r of the 16 bytes from `at` on end in a kept one, or r is 0
pub record LastKept (s : List ℕ) (at r : ℕ) : Type 0 where
  pub within : r ≤ 16
  pub last : 0 < r → KeptByte (get_or s (at + (r - 1)) 0)

-- k bytes from i and from j on are passed: no change is among them
pub record Passed (s : List ℕ) (i : ℕ) (t : List ℕ) (j k : ℕ) : Type 0 where
  pub fits_source : i + k ≤ length s
  pub fits_text : j + k ≤ length t
  pub well_source : WellFormed (drop i s) → WellFormed (drop (i + k) s)
  pub well_text : WellFormed (drop j t) → WellFormed (drop (j + k) t)
  pub struck : strike (decode (drop j t)) ≡ strike (decode (drop i s))
      → strike (decode (drop (j + k) t)) ≡ strike (decode (drop (i + k) s))
  pub same : changes_from (strike (decode (drop i s))) i j (decode (drop i s)) (decode (drop j t))
      ≡ changes_from (strike (decode (drop (i + k) s))) (i + k) (j + k) (decode (drop (i + k) s))
      (decode (drop (j + k) t))

-- the bytes of a block that are passed, some of them, or r is None
pub record BlockPassed (s : List ℕ) (i : ℕ) (t : List ℕ) (j : ℕ) (r : Option ℕ) : Type 0 where
  pub some : (n : ℕ) → r ≡ Some n → (0 < n) × Passed s i t j n
