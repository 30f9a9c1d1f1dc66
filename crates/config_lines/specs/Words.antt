-- Words, and the parts of a line by bytes.
use Rattle.std.specs.Prelude.{ℕ, ◌+◌, ◌<◌, true, List, ◌≡◌, length, take, drop}
use Rattle.utf8.specs.Unicode.{within, decode, WellFormed, trim}
use Rattle.rules.specs.Basics.{choose}
use Rattle.config_rules.specs.Lines.{has_eq, key, setting}

-- a character without regard to the case of the ASCII letters, as `lower` changes it
abbrev pub lowered : ℕ → ℕ
lowered c = choose (within 65 90 c) (c + 32) c

-- r is the place of the first `=` of s
pub record EqAt (s : List ℕ) (r : ℕ) : Type 0 where
  pub fits : r < length s
  pub has : has_eq s ≡ true
  pub key : key s ≡ take r s
  pub setting : setting s ≡ drop (r + 1) s

-- r is what is left of s trimmed
pub record Trimmed (s r : List ℕ) : Type 0 where
  pub well : WellFormed r
  pub is : decode r ≡ trim (decode s)
