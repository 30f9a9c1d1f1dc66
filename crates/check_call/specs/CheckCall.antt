-- A call that asks whether a source is formatted already: its tests, what it comes to, and its answer in numbers.
use Rattle.std.specs.Prelude.{ℕ, Bool, not, ◌||◌, List, ◌≡◌, eqb, length, Result, Ok, Err}
use Rattle.utf8.specs.Unicode.{Scalars, decode}
use Rattle.compare.specs.Common.{Keeps}
use Rattle.rules.specs.Basics.{choose, same}
use Rattle.rules.specs.Options.{Options}
use Rattle.rules.specs.Choices.{Choices, valid_options, options_of}
use Rattle.rules.specs.Assembly.{format_with}
use Rattle.rules.specs.Refusals.{Verdict, tested, number_of, place_of}
use Rattle.rules.specs.Call.{format_tests}
use Rattle.rules.specs.declared.Refusal.{Refusal}
use Rattle.options.specs.Held.{held}
use Rattle.options.specs.declared.FormatOptions.{FormatOptions}
use Rattle.check_rules.specs.Check.{Checked, is_formatted}
use Rattle.check_call.specs.declared.CheckAnswer.{CheckAnswer}
use Rattle.check_call.specs.declared.Finding.{Finding}

-- 12, 13, 1, 2, 11, 3 and 4; an ending that is kept is a bad option
unfoldable pub verdict_of : Choices → List ℕ → ℕ → Verdict
verdict_of c source scratch =
    tested
    (format_tests c.strengths source (not (valid_options c) || eqb c.numbers.line_ending 0)
    c.numbers.ruler_tab scratch)

-- the options that choices name, or refusal 2
abbrev pub checked_options : Choices → Result FormatOptions Refusal
checked_options c =
    choose (not (valid_options c) || eqb c.numbers.line_ending 0) (Err Refusal.BadOption) (Ok (held (options_of c)))

abbrev pub finding_of : Checked → Finding
finding_of r = record { yes = r.yes; read = r.read }

-- what a check comes to: what it finds, or a refusal
abbrev pub CheckOutcome : Type 0
CheckOutcome = Result Finding Refusal

abbrev pub outcome_after : Verdict → Finding → CheckOutcome
outcome_after (Ok _) f = Ok f
outcome_after (Err why) f = Err why

unfoldable pub outcome_of : Choices → List ℕ → ℕ → CheckOutcome
outcome_of c source scratch =
    outcome_after (verdict_of c source scratch) (finding_of (is_formatted (options_of c) (decode source)))

abbrev pub one_if : Bool → ℕ
one_if b = choose b 1 0

-- what the host reads: a refused call gives number and place, other fields 0
abbrev pub answer_of : CheckOutcome → CheckAnswer
answer_of (Ok f) = record { refusal = 0; place = 0; formatted = one_if f.yes; lines_read = f.read }
answer_of (Err why) =
    record { refusal = number_of why; place = place_of why; formatted = 0; lines_read = 0 }

-- r tells whether a text of n bytes that was compared with the source is the source
pub record Compares (source cell : List ℕ) (n : ℕ) (r : Bool) : Type 0 where
  pub is : (text : List ℕ) → n ≡ length text → Keeps source cell text → r ≡ same text source

-- the definition's answer was found, if the text consists of scalar values
pub record CheckedWith (o : Options) (source : List ℕ) (r : Finding) : Type 0 where
  pub is : Scalars (format_with o (decode source)).text → r ≡ finding_of (is_formatted o (decode source))

pub record Found (c : Choices) (source : List ℕ) (scratch : ℕ) (r : CheckOutcome) : Type 0 where
  pub is : r ≡ outcome_of c source scratch
