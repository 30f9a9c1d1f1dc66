-- What is said of class bytes that are written in one go.
use Rattle.std.specs.Prelude.{ℕ, ◌-◌, ◌≤◌, List, ◌++◌, ◌≡◌, length, take, drop, replicate}

-- the places a ≤ e ≤ n of a line of n bytes, whose class bytes have room
pub record Span (a e n : ℕ) (class : List ℕ) : Type 0 where
  pub from : a ≤ e
  pub within : e ≤ n
  pub room : n ≤ length class

-- From place a to place e the class bytes are k. Those between e and n may be any, and nothing else was written.
pub record Marked (k a e n : ℕ) (before after : List ℕ) : Type 0 where
  pub bytes : take e after ≡ take a before ++ replicate (e - a) k
  pub as_long : length after ≡ length before
  pub beyond : drop n after ≡ drop n before
