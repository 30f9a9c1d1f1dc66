-- The line endings of a part of a source.
use Rattle.std.specs.Prelude.{ℕ, ◌+◌, ◌≤◌, List, ◌∷◌, ◌++◌, ◌≡◌, length}
use Rattle.rules.specs.Basics.{is, count}
use Rattle.rules.specs.Lines.{crlfs}

-- A block has lf line feeds, crlf of them after a carriage return, where `first` stands before it: they are what it adds
-- to those of what stands behind it. The byte before that is last.
pub record Counted (block : List ℕ) (first lf crlf last : ℕ) : Type 0 where
  pub lfs : (rest : List ℕ) → count (is "\n") (block ++ rest) ≡ lf + count (is "\n") rest
  pub pairs : (rest : List ℕ) → crlfs (first ∷ (block ++ rest)) ≡ crlf + crlfs (last ∷ rest)
  pub few : crlf ≤ lf
  pub small : lf ≤ length block
