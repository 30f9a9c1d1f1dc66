-- What split_import gives.
use Rattle.std.specs.Prelude.{ℕ, ◌+◌, ◌^◌, ◌≤◌, ◌<◌, List, [], ◌∷◌, ◌++◌, ◌≡◌, length, take, drop, Some, None}
use Rattle.std.specs.Prelude as code
use Rattle.std.proofs.Math.Option.{Option, none, some}
use Rattle.buffer.specs.Buffer.{part}
use Rattle.compare.specs.Common.{Compared}
use Rattle.utf8.specs.Unicode.{encode, decode, WellFormed, trim_end}
use Rattle.rules.specs.declared.Carry.{Carry}
use Rattle.rules.specs.Options.{Options}
use Rattle.rules.specs.Scan.{classify}
use Rattle.rules.specs.ClassBytes.{class_bytes}
use Rattle.rules.specs.SplitImport.{Laid, import_parts}
use Rattle.split.specs.Measure.{Indent}
use Rattle.split.specs.Text.{lay, Written, Fits}
use Rattle.split_import.specs.Names.{parts}
use Rattle.split_import.specs.declared.ImportLines.{ImportLines}

pub record NotSplit (out out' : List ℕ) (r : code.Option ImportLines) : Type 0 where
  pub is : r ≡ None
  pub same : out' ≡ out

pub record Split (laid : Laid) (eol model out out' : List ℕ) (at : ℕ)
    (r : code.Option ImportLines) : Type 0 where
  pub made : ImportLines
  pub is : r ≡ Some made
  pub written : Written eol laid.lines model out out' at made.last made.next
  pub blanks : made.blanks ≡ laid.blank_names

-- where the line isn't split, nothing is written
abbrev pub Given : Option Laid → List ℕ → List ℕ → List ℕ → List ℕ → ℕ → code.Option ImportLines → Type 0
Given none eol model out out' at r = NotSplit out out' r
Given (some laid) eol model out out' at r = Split laid eol model out out' at r

-- the line, the class byte of each of its bytes, and the place to write from
pub record ImportFits (line class indent : List ℕ) (level : ℕ) (eol : List ℕ) (at : ℕ) : Type 0 where
  pub fits : Fits line indent level eol at
  pub classes : class ≡ class_bytes (classify Carry.Code line)

pub record HeadFits (head indent : List ℕ) (level at : ℕ) : Type 0 where
  pub well : WellFormed head
  pub indents : Indent indent level
  pub room : at + (67108930 + length head) < 2 ^ 64

-- the first line of an import, in bytes
abbrev pub head_line : List ℕ → ℕ → List ℕ → List ℕ
head_line indent level head = lay indent level (encode (trim_end (decode head)) ++ (32 ∷ 123 ∷ []))

pub record HeadWritten (head indent : List ℕ) (level : ℕ) (model out out' : List ℕ) (at r : ℕ) : Type 0 where
  pub text : Compared model out out' at (head_line indent level head) r
  pub room : r ≤ at + (67108930 + length head)

-- a line whose braces stand at two places
pub record Braces (line : List ℕ) (start end : ℕ) (indent : List ℕ) (level : ℕ) (eol : List ℕ) (at : ℕ) : Type 0 where
  pub fits : Fits line indent level eol at
  pub order : start < end
  pub within : end < length line
  pub head : WellFormed (take start line)
  pub inside : WellFormed (part line (start + 1) end)
  pub tail : WellFormed (drop end line)

-- the import that it is
abbrev pub parts_of : Options → ℕ → ℕ → List ℕ → ℕ → ℕ → Option Laid
parts_of o max level line start end =
    import_parts o max level (decode (take start line)) (parts (part line (start + 1) end)) (decode (drop end line))
