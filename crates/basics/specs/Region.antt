-- Scratch is one buffer: a function that writes a region of it leaves the rest.
use Rattle.std.specs.Prelude.{ℕ, List, ◌≡◌, length, take, drop}

-- at most the elements from a up to e differ
pub record Only (before after : List ℕ) (a e : ℕ) : Type 0 where
  pub long : length after ≡ length before
  pub front : take a after ≡ take a before
  pub back : drop e after ≡ drop e before
