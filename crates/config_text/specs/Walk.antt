-- The lines of a text that are left.
use Rattle.std.specs.Prelude.{ℕ, ◌≤◌, List, [], ◌∷◌, map, ◌≡◌, length, Option, Some, None}
use Rattle.std.specs.Option.{MatchOption}
use denote.Ref.{Bor}
use Rattle.utf8.specs.Unicode.{decode, WellFormed, trim}
use Rattle.rules.specs.Basics.{pieces, split_on}
use Rattle.config_rules.specs.Lines.{Line, line_of, without_bom, lines_of}
use Rattle.config_lines.specs.Kinds.{trimmed_line_in, Parts}
use Rattle.config_lines.specs.declared.kinds.LineKind.{LineKind}
use Rattle.config_text.specs.declared.walk.Lines.{Lines}

-- the lines of a text by bytes
unfoldable pub lines_in : List ℕ → List Line
lines_in text = map (λ (l : List ℕ). line_of (trim (decode l))) (pieces (split_on "\n" text))

abbrev pub lines_left : Lines → List Line
lines_left s = left s.rest
  where
    left : Option (Bor (List ℕ)) → List Line
    left None = []
    left (Some text) = lines_in text.now

abbrev pub LinesWell : Lines → Type 0
LinesWell s = MatchOption s.rest (Unit {0}) (λ text. WellFormed text.now)

-- the next of the lines that are left
abbrev pub NextLine : Lines → Option (Option LineKind) → Lines → Type 0
NextLine s r t = MatchOption r ((lines_left s ≡ []) × (t ≡ s)) (λ line. (lines_left s ≡ trimmed_line_in line ∷ lines_left t) × Parts line)

-- r is the text without one U+FEFF at its start
pub record Unmarked (text r : List ℕ) : Type 0 where
  pub well : WellFormed r
  pub is : decode r ≡ without_bom (decode text)

pub record LinesOf (text : List ℕ) (s : Lines) : Type 0 where
  pub well : LinesWell s
  pub is : lines_of (decode text) ≡ lines_left s

-- a text that refusals 7 and 4 let pass
pub record Readable (text : List ℕ) : Type 0 where
  pub short : length text ≤ 65_536
  pub well : WellFormed text
