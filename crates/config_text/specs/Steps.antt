-- What one line does to what is known so far.
use Rattle.std.specs.Prelude.{ℕ, Bool, true, false, List, [], ◌∷◌, ◌≡◌, Option, Some, None}
use Rattle.utf8.specs.Unicode.{decode, WellFormed}
use Rattle.rules.specs.Basics.{choose, codes, same}
use Rattle.rules.specs.declared.Resolved.{Resolved}
use Rattle.config_rules.specs.Globs.{matches}
use Rattle.config_rules.specs.Lines.{Line, lines_of}
use Rattle.config_rules.specs.Lines.Line.{nothing, header, pair}
use Rattle.config_rules.specs.Values.{superseded}
use Rattle.config_rules.specs.Sections.{long_name}
use Rattle.config_lines.specs.Kinds.{line_in, Parts}
use Rattle.config_lines.specs.declared.kinds.LineKind.{LineKind}
use Rattle.config_text.specs.Walk.{Readable}

abbrev pub starts_section : Option LineKind → Bool
starts_section None = false
starts_section (Some (LineKind.Header name)) = true
starts_section (Some (LineKind.Pair k v)) = false

unfoldable pub root_after : Bool → Line → Bool
root_after root nothing = root
root_after root (header name) = root
root_after root (pair k v) = choose (same k (codes "root")) (same v (codes "true")) root

-- whether the section's pairs count
unfoldable pub applies_after : List ℕ → Bool → Line → Bool
applies_after rel applies nothing = applies
applies_after rel applies (header name) = matches name rel
applies_after rel applies (pair k v) = applies

unfoldable pub values_after : Bool → Resolved → Line → Resolved
values_after applies r nothing = r
values_after applies r (header name) = r
values_after applies r (pair k v) = choose applies (superseded r k v) r

-- a line whose name, if it is a header, is not too long, and a path
pub record Named (line : Option LineKind) (rel : List ℕ) : Type 0 where
  pub parts : Parts line
  pub well : WellFormed rel
  pub short : long_name (line_in line ∷ []) ≡ false

-- a text that is not refused
pub record Accepted (text : List ℕ) : Type 0 where
  pub readable : Readable text
  pub names : long_name (lines_of (decode text)) ≡ false
