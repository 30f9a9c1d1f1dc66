-- Text kinds read off a line's bytes, and what their reading asks of a source.
use Rattle.std.specs.Prelude.{ℕ, zero, suc, ◌+◌, ◌≤◌, ◌<◌, ◌^◌, List, [], ◌∷◌, length, get_or}
use Rattle.utf8.specs.Unicode.{tail, WellFormed}
use Rattle.split.specs.Text.{first_of}
use Rattle.rules.specs.Basics.{choose, pieces, split_on}
use Rattle.rules.specs.Scan.{next, begin, carry_after}
use Rattle.rules.specs.TextKind.{in_interpolation, class_kind, rust_lines}
use Rattle.rules.specs.declared.Carry.{Carry}
use Rattle.rules.specs.declared.Mark.{Mark}
use Rattle.rules.specs.declared.TextKind.{TextKind}

-- `kinds`, on bytes: the kind of each byte that starts a character; t is the mark before them
unfoldable pub byte_kinds : Mark → List ℕ → List TextKind
byte_kinds t [] = []
byte_kinds t (b ∷ s) =
    let r = byte_kinds (next t (b ∷ s)) s in
    choose (tail b) r (class_kind (next t (b ∷ s)).class (in_interpolation t.mode) ∷ r)

-- `kind_in`, on the bytes of the lines
unfoldable pub byte_kind_in : Carry → List (List ℕ) → ℕ → ℕ → TextKind
byte_kind_in y [] n col = TextKind.Code
byte_kind_in y (l ∷ ls) zero col = get_or (byte_kinds (begin y) l) col TextKind.Code
byte_kind_in y (l ∷ ls) (suc n) col = byte_kind_in (carry_after y l) ls n col

-- in the bytes s, before which y is open
abbrev pub kind_from : Carry → List ℕ → ℕ → ℕ → TextKind
kind_from y s n col = byte_kind_in y (rust_lines (pieces (split_on "\n" s))) n col

-- the first of a text's lines, as Rust's `lines` cuts them, or nothing
unfoldable pub line_at : List ℕ → List ℕ
line_at s = first_of (rust_lines (pieces (split_on "\n" s)))

-- a well-formed source: the classes of its lines fit into the scratch, and the depth of its comments and braces into 32
-- bits
pub record SourceFits (source scratch : List ℕ) : Type 0 where
  pub well : WellFormed source
  pub room : length source ≤ length scratch
  pub short : length source + 1 < 2 ^ 32
