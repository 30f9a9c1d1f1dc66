-- The kind of a trimmed line, by bytes.
use Rattle.std.specs.Prelude.{ℕ, ◌-◌, List, ◌≡◌, true, length, take, drop, Option, Some, None}
use Rattle.utf8.specs.Unicode.{decode, WellFormed, trim}
use Rattle.config_rules.specs.Lines.{Line, lower, line_of, is_header}
use Rattle.config_rules.specs.Lines.Line.{nothing, header, pair}
use Rattle.config_lines.specs.declared.kinds.LineKind.{LineKind}

-- what stands between the first byte and the last
abbrev pub name_in : List ℕ → List ℕ
name_in s = take (length s - 2) (drop 1 s)

pub record Named (s name : List ℕ) : Type 0 where
  pub header : is_header s ≡ true
  pub is : name ≡ name_in s

-- the line that is of this kind, with key and value as they stand
unfoldable pub line_in : Option LineKind → Line
line_in None = nothing
line_in (Some (LineKind.Header name)) = header (decode name.now)
line_in (Some (LineKind.Pair k v)) = pair (lower (decode k.now)) (lower (decode v.now))

-- the same with key and value trimmed
unfoldable pub trimmed_line_in : Option LineKind → Line
trimmed_line_in None = nothing
trimmed_line_in (Some (LineKind.Header name)) = header (decode name.now)
trimmed_line_in (Some (LineKind.Pair k v)) = pair (lower (trim (decode k.now))) (lower (trim (decode v.now)))

-- its parts are well-formed
unfoldable pub Parts : Option LineKind → Type 0
Parts None = Unit {0}
Parts (Some (LineKind.Header name)) = WellFormed name.now
Parts (Some (LineKind.Pair k v)) = WellFormed k.now × WellFormed v.now

pub record KindOf (s : List ℕ) (k : Option LineKind) : Type 0 where
  pub is : line_of (decode s) ≡ trimmed_line_in k
  pub parts : Parts k
