-- The exported contract of a call that asks whether a source is formatted already.
use Rattle.std.specs.Prelude.{ℕ, List, ◌≡◌, length, replicate}
use Rattle.utf8.specs.Unicode.{decode}
use Rattle.rules.specs.Lines.{lines_of}
use Rattle.rules.specs.Choices.{Choices, options_of}
use Rattle.rules.specs.Assembly.{format_with}
use Rattle.rules.specs.declared.OptionNumbers.{OptionNumbers}
use Rattle.check_call.specs.declared.CheckAnswer.{CheckAnswer}
use Rattle.check_call.specs.CheckCall.{outcome_of, answer_of}

abbrev pub choices_of : List ℕ → OptionNumbers → List ℕ → Choices
choices_of indent numbers strengths = record { indent = indent; numbers = numbers; strengths = strengths }

-- The answer r, for a scratch of so many bytes, and what that holds after the call.
pub record CheckAnswered (c : Choices) (source : List ℕ) (room : ℕ) (r : CheckAnswer) (work : List ℕ) : Type 0 where
  pub answer : r ≡ answer_of (outcome_of c source room)
  pub scratch : work ≡ replicate room 0
  -- an accepted call says yes exactly where the text is the source, and then all lines were read
  pub yes : r.refusal ≡ 0 → r.formatted ≡ 1 → (format_with (options_of c) (decode source)).text ≡ decode source
  pub no : r.refusal ≡ 0 → r.formatted ≡ 0 → (format_with (options_of c) (decode source)).text ≡ decode source → ⊥
  pub all : r.refusal ≡ 0 → r.formatted ≡ 1 → r.lines_read ≡ length (lines_of (decode source))
