-- Tests of characters, and of sixteen bytes at a time, where all are ASCII.
use Rattle.std.specs.Prelude.{ℕ, zero, suc, ◌+◌, ◌≤◌, ◌<◌, Bool, false, List, ◌≡◌, Option, Some, length, get_or, drop}
use Rattle.utf8.specs.Unicode.{code_at}
use Rattle.utf8.specs.Places.{Step}
use Rattle.rules.specs.Basics.{choose}

abbrev pub one : Bool → ℕ
one b = choose b 1 0

-- how many of the k bytes from `at` on pass the test
unfoldable pub count_at : (ℕ → Bool) → List ℕ → ℕ → ℕ → ℕ
count_at p s at zero = 0
count_at p s at (suc k) = count_at p s at k + one (p (get_or s (at + k) 0))

-- r tells whether an ASCII byte passes the test
pub record AsciiTest (p : ℕ → Bool) (b : ℕ) (r : Bool) : Type 0 where
  pub is : b < 0x80 → r ≡ p b

-- the character at i takes n bytes, and r tells whether it passes the test
pub record Tested (p : ℕ → Bool) (s : List ℕ) (i n : ℕ) (r : Bool) : Type 0 where
  pub is : r ≡ p (code_at (drop i s))
  pub step : Step s i n

-- unless one is higher, the k bytes from `at` on are ASCII, and n of them pass the test
pub record Counted (p : ℕ → Bool) (s : List ℕ) (at k : ℕ) (high : Bool) (n : ℕ) : Type 0 where
  pub short : k ≤ 16
  pub few : n ≤ k
  pub ascii : high ≡ false → (j : ℕ) → j < k → get_or s (at + j) 0 < 0x80
  pub is : high ≡ false → n ≡ count_at p s at k

-- the 16 bytes from `at` on are there and are ASCII, and so many of them pass the test, or r is None
pub record BlockAt (p : ℕ → Bool) (s : List ℕ) (at : ℕ) (r : Option ℕ) : Type 0 where
  pub few : (n : ℕ) → r ≡ Some n → n ≤ 16
  pub fits : (n : ℕ) → r ≡ Some n → at + 16 ≤ length s
  pub counted : (n : ℕ) → r ≡ Some n → Counted p s at 16 false n
