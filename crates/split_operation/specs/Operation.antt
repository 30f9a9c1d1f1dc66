-- What split_operation gives.
use Rattle.std.specs.Prelude.{ℕ, suc, ◌+◌, ◌-◌, ◌*◌, ◌^◌, ◌≤◌, ◌<◌, Bool, true, false, not, List, [], ◌++◌, map, ◌≡◌, ltb, eqb, length, Some, None}
use Rattle.std.specs.Prelude as code
use Rattle.compare.specs.Common.{Compared}
use Rattle.utf8.specs.Unicode.{encode, decode, WellFormed, trim}
use Rattle.rules.specs.declared.Carry.{Carry}
use Rattle.rules.specs.Basics.{choose, is_empty, Pieces}
use Rattle.rules.specs.Scan.{Cell, classify, all_code_or_str}
use Rattle.rules.specs.ClassBytes.{class_bytes, cells_of}
use Rattle.buffer.specs.Repeat.{times}
use Rattle.rules.specs.Options.{measure}
use Rattle.rules.specs.SplitOperation.{break_first}
use Rattle.split.specs.declared.NewLine.{NewLine}
use Rattle.split.specs.Measure.{Indent}
use Rattle.split.specs.Text.{indented, lay, AllWell, following, last_of, Written, Fits, line_room}
use Rattle.split_operation.specs.Pass.{break_strength, rest_from, Sound, Breakable, NextOp, line_start}
use Rattle.split_operation.specs.declared.pass.Break.{Break}
use Rattle.split_operation.specs.declared.pass.Cut.{Cut}
use Rattle.split_operation.specs.declared.OperationSplit.{OperationSplit}

-- the last of the lines that were written, and whether there are several
abbrev pub line_of : OperationSplit → NewLine
line_of (OperationSplit.Whole w) = w
line_of (OperationSplit.Broken w) = w

abbrev pub is_broken : OperationSplit → Bool
is_broken (OperationSplit.Whole w) = false
is_broken (OperationSplit.Broken w) = true

-- the lines of an expression, written
pub record Broken (eol : List ℕ) (lines : List (List ℕ)) (model out out' : List ℕ) (at : ℕ)
    (r : OperationSplit) : Type 0 where
  pub written : Written eol lines model out out' at (line_of r).start (line_of r).next
  pub more : is_broken r ≡ ltb 1 (length lines)

-- bytes of a piece, trimmed
abbrev pub trim_bytes : List ℕ → List ℕ
trim_bytes p = encode (trim (decode p))

-- the lines of the pieces from a cut on
abbrev pub rest_lines : List ℕ → ℕ → List (List ℕ) → List (List ℕ)
rest_lines indent level ps = map (λ (p : List ℕ). lay indent level (trim_bytes p)) ps

pub record RestFits (table : List ℕ) (strength : ℕ) (line class : List ℕ) (cut : Cut) (indent : List ℕ) (level : ℕ)
    (eol : List ℕ) (first : NewLine) : Type 0 where
  pub some : strength ≡ 0 → ⊥
  pub within : cut.place ≤ length line
  pub breaks : Breakable line class
  pub sound : cut.place < length line → Sound cut.after (cut.place + 1)
  pub well : AllWell (rest_from table strength line class cut)
  pub indents : Indent indent level
  pub end : length eol ≤ 2
  pub room : first.next + (length line - cut.place) * line_room < 2 ^ 64

-- lines ls written after the first ones, of which the last is any l that ends at their next place
pub record After (eol : List ℕ) (ls : List (List ℕ)) (model out out' : List ℕ) (first r : NewLine) : Type 0 where
  pub text : Compared model out out' first.next (following eol ls) r.next
  pub last : (l : List ℕ) → first.start + length l ≡ first.next → r.start + length (last_of l ls) ≡ r.next

pub record RestWritten (table : List ℕ) (strength : ℕ) (line class : List ℕ) (cut : Cut) (indent : List ℕ) (level : ℕ)
    (eol model out out' : List ℕ) (first r : NewLine) : Type 0 where
  pub after : After eol (rest_lines indent level (rest_from table strength line class cut)) model out out' first r
  pub room : r.next ≤ first.next + (length line - cut.place) * line_room

-- a line of code and strings, with its class bytes
pub record Classed (line class : List ℕ) : Type 0 where
  pub classes : class ≡ class_bytes (classify Carry.Code line)
  pub plain : all_code_or_str (classify Carry.Code line) ≡ true

-- what split_operation asks
pub record OperationFits (line class indent : List ℕ) (level : ℕ) (eol : List ℕ) (at : ℕ) : Type 0 where
  pub fits : Fits line indent level eol at
  pub classed : Classed line class

pub record LineFits (line class indent : List ℕ) (level : ℕ) : Type 0 where
  pub well : WellFormed line
  pub breaks : Breakable line class
  pub indents : Indent indent level

-- the strength that a first line is broken at, or 0: it fits, or no rounds are left
unfoldable pub round_strength : List ℕ → ℕ → List ℕ → ℕ → ℕ → ℕ → List ℕ → List Cell → ℕ
round_strength table ruler indent level max rounds line cells =
    choose (eqb rounds 0) 0
    (choose (ltb max (measure ruler 0 (times level indent ++ decode line))) (break_strength table cells) 0)

-- a first line is broken so
pub record RoundAt (table : List ℕ) (ruler : ℕ) (indent : List ℕ) (level max rounds : ℕ) (line class : List ℕ)
    (r : Break) : Type 0 where
  pub strength : r.strength ≡ round_strength table ruler indent level max rounds line (cells_of line class)
  pub some : r.strength ≡ 0 → ⊥
  pub cut : NextOp table r.strength line class 0 line_start r.cut

abbrev pub RoundBreak : List ℕ → ℕ → List ℕ → ℕ → ℕ → ℕ → List ℕ → List ℕ → code.Option Break → Type 0
RoundBreak table ruler indent level max rounds line class None =
    0 ≡ round_strength table ruler indent level max rounds line (cells_of line class)
RoundBreak table ruler indent level max rounds line class (Some r) =
    RoundAt table ruler indent level max rounds line class r

-- the lines of pieces, as bytes
abbrev pub first_line : List ℕ → ℕ → Pieces → List ℕ
first_line indent level p = lay indent level (encode p.first)

abbrev pub other_lines : List ℕ → ℕ → Pieces → List (List ℕ)
other_lines indent level p = map (λ (l : List ℕ). lay indent (suc level) (encode l)) p.rest

pub record PiecesWritten (indent : List ℕ) (level : ℕ) (eol : List ℕ) (p : Pieces) (model out out' : List ℕ) (at : ℕ)
    (r : NewLine) : Type 0 where
  pub text : Compared model out out' at (first_line indent level p ++ following eol (other_lines indent level p))
      r.next
  pub last : r.start + length (last_of (first_line indent level p) (other_lines indent level p)) ≡ r.next

-- the pieces that a line alone becomes in so many rounds
abbrev pub broken_in : List ℕ → ℕ → List ℕ → ℕ → ℕ → ℕ → List ℕ → Pieces
broken_in table ruler indent level max rounds line =
    break_first table (indented indent ruler) max level rounds (record { first = decode line; rest = [] })

pub record FirstBroken (table : List ℕ) (ruler : ℕ) (line indent : List ℕ) (level : ℕ) (eol : List ℕ) (max rounds : ℕ)
    (model out out' : List ℕ) (at : ℕ) (r : OperationSplit) : Type 0 where
  pub pieces : PiecesWritten indent level eol (broken_in table ruler indent level max rounds line) model out out' at
      (line_of r)
  pub more : is_broken r ≡ not (is_empty (broken_in table ruler indent level max rounds line).rest)
  pub room : (line_of r).next ≤ at + (length line + 1) * line_room
