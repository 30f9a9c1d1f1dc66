-- A plain `else`, as the code finds it, and the facts of a line.
use Rattle.std.specs.Prelude.{ℕ, Bool, not, ◌&&◌, ◌||◌, List, ◌≡◌}
use Rattle.utf8.specs.Unicode.{decode, trim_start, trim_end}
use Rattle.utf8.specs.Places.{TrimmedEnd}
use Rattle.rules.specs.Basics.{is, at, is_empty, first_is, last_is}
use Rattle.rules.specs.Else.{starts_if, white_or_brace}
use Rattle.format.specs.declared.else_line.LineFacts.{LineFacts}

-- what follows the `else` of a plain one
unfoldable pub plain_rest : List ℕ → Bool
plain_rest rest = (first_is white_or_brace rest || is_empty rest) && not (starts_if rest)

-- the facts that say whether an `else` may join the line
pub record Facts (line : List ℕ) (r : LineFacts) : Type 0 where
  pub trimmed : TrimmedEnd line r.trimmed
  pub brace : r.brace ≡ last_is (is "}") (trim_end (decode line))
  pub starts : r.else_first ≡ at (trim_start (decode line)) "else"
