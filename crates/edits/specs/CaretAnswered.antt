-- The exported contract of a formatting call with a caret.
use Rattle.std.specs.Prelude.{List, ◌≡◌, ℕ, take}
use Rattle.utf8.specs.Unicode.{decode, WellFormed}
use Rattle.rules.specs.Choices.{options_of}
use Rattle.rules.specs.Call.{Call, format_call}
use Rattle.rules.specs.Demand3.{Kept}
use Rattle.rules.specs.Quoted.{QuotedKept}
use Rattle.caret.specs.Caret.{before, behind, Follows}
use Rattle.edits.specs.Text.{text_left}
use Rattle.edits.specs.CaretCall.{caret_verdict, caret_in, caret_answer}
use Rattle.edits.specs.declared.with_caret.CaretAnswer.{CaretAnswer}

-- The answer r to the call c with the caret at a line and a column, and what its output and its scratch hold after it.
pub record CaretAnswered (c : Call) (line column : ℕ) (r : CaretAnswer) (out work : List ℕ) : Type 0 where
  pub answer : r ≡ caret_answer (caret_verdict c line column) (format_call c).answer (caret_in c line column)
  pub output : out ≡ text_left (caret_verdict c line column) c
  pub scratch : work ≡ (format_call c).scratch
  -- of an accepted call, what a formatting call promises of its text and counts
  pub well : r.refusal ≡ 0 → WellFormed (take r.length out)
  pub kept : r.refusal ≡ 0
      → Kept (options_of c.choices).print_width (decode c.source) (decode (take r.length out))
      r.imports_split r.blank_names
  pub quoted : r.refusal ≡ 0 → c.choices.numbers.width_set ≡ 0
      → QuotedKept (options_of c.choices).end_of_line (decode c.source) (decode (take r.length out))
  -- and its line and column are a place of the text with the same count before it, and the same letter next
  pub follows : r.refusal ≡ 0
      → Follows (before line column (decode c.source)) (behind line column (decode c.source))
      (before r.line r.column (decode (take r.length out)))
      (behind r.line r.column (decode (take r.length out)))
