-- What the loop over the lines gives.
use Rattle.std.specs.Prelude.{ℕ, ◌+◌, ◌*◌, ◌≤◌, Bool, true, false, not, List, [], ◌≡◌, length, Option, Some, None, unwrap_or}
use Rattle.utf8.specs.Unicode.{Scalars, decode, WellFormed}
use Rattle.rules.specs.Basics.{choose, same}
use Rattle.rules.specs.Lines.{as_str, lines_of}
use Rattle.rules.specs.Options.{Options}
use Rattle.rules.specs.Refusals.{max_source}
use Rattle.rules.specs.Line.{start}
use Rattle.rules.specs.Assembly.{finish, format_lines}
use Rattle.brackets.specs.Stack.{entry_size}
use Rattle.compare.specs.Common.{Keeps, Tells}
use Rattle.check_rules.specs.Check.{Checked, check_lines}
use Rattle.line.specs.Scratch.{stack_at, scratch_used}
use Rattle.line.specs.Holds.{Record, Holds, Small, Uses, ValidIndent}
use Rattle.line.specs.declared.style.Style.{Style}
use Rattle.lines.specs.declared.LinesRead.{LinesRead}

-- what refusals 1 to 4 leave: a well-formed source, a valid indent, and room in scratch
pub record Passed (source indent scratch : List ℕ) : Type 0 where
  pub limit : length source ≤ max_source
  pub well : WellFormed source
  pub indents : ValidIndent indent
  pub room : scratch_used (length source) ≤ length scratch

-- the model that the steps are given: an empty one stands for none
abbrev pub given : Option (List ℕ) → List ℕ
given model = unwrap_or model []

-- an output, or what a comparison with the model keeps, before anything is written
pub record Starts (model : Option (List ℕ)) (out : List ℕ) : Type 0 where
  pub none : Keeps (given model) out []

-- all lines of the source are formatted: the state and the output hold the definition's record
pub record LinesDone (source indent : List ℕ) (style : Style) (model : List ℕ) (st : Record)
    (out scratch : List ℕ) : Type 0 where
  pub holds : (o : Options) → Uses o indent style
      → Holds model (as_str style.ending) (length source) (format_lines o (lines_of (decode source)) start) st out
      scratch
  pub small : Small st
  pub stack : stack_at (length source) + entry_size * st.nesting.depth ≤ length scratch

-- the finished text of a source
abbrev pub whole_text : Options → List ℕ → List ℕ → List ℕ
whole_text o source eol = (finish o source eol (format_lines o (lines_of source) start)).text

-- the answer, if all lines were read or the settled text differed after `read` of them
abbrev pub answer_at : Options → List ℕ → List ℕ → Bool → ℕ → Checked
answer_at o source eol all read = record { yes = choose all (same (whole_text o source eol) source) false; read = read }

-- If checks, r tells whether the first k bytes of a text that is compared with the model differ from it; without a check
-- or a comparison they don't.
pub record Differs (checks : Bool) (model : Option (List ℕ)) (out : List ℕ) (k : ℕ) (r : Bool) : Type 0 where
  pub unchecked : checks ≡ false → r ≡ false
  pub off : model ≡ None → r ≡ false
  pub told : checks ≡ true → (text : List ℕ) → model ≡ Some text → Tells text out k (not r)

-- The lines of the source were read: all of them, or, if checks and where the text is compared with the source, up to
-- the first whose settled text differs. Then the definition's answer is known but for the finished text.
pub record AllRead (source indent : List ℕ) (style : Style) (checks : Bool) (model : Option (List ℕ)) (r : LinesRead)
    (out scratch : List ℕ) : Type 0 where
  pub done : r.all ≡ true → LinesDone source indent style (given model) r.st out scratch
  pub unchecked : checks ≡ false → r.all ≡ true
  pub all : model ≡ None → r.all ≡ true
  pub answer : checks ≡ true → model ≡ Some source → (o : Options) → Uses o indent style
      → Scalars (whole_text o (decode source) (as_str style.ending))
      → check_lines o (decode source) (as_str style.ending) (lines_of (decode source)) start 0
      ≡ answer_at o (decode source) (as_str style.ending) r.all r.st.nesting.line
