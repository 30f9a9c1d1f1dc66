-- A call from its arguments, and what it comes to before its answer is put into numbers.
use Rattle.std.specs.Prelude.{ℕ, List, ◌≡◌}
use Rattle.rules.specs.Choices.{Choices}
use Rattle.rules.specs.Call.{Call, Outcome, outcome_of, output_of, opened_of, scratch_of}
use Rattle.rules.specs.declared.OptionNumbers.{OptionNumbers}
use Rattle.call.specs.declared.Request.{Request}

-- the bytes lent, the numbers, and how long the output, the list of open brackets and the scratch are
abbrev pub call_of : List ℕ → List ℕ → OptionNumbers → List ℕ → ℕ → ℕ → ℕ → Call
call_of source indent numbers strengths output opened scratch =
    record {
      source = source;
      choices = record { indent = indent; numbers = numbers; strengths = strengths };
      output = output;
      opened = opened;
      scratch = scratch;
    }

-- a request's, and its options
abbrev pub asked : Request → ℕ → ℕ → ℕ → Call
asked r output opened scratch = call_of r.source.now r.indent.now r.numbers r.strengths.now output opened scratch

abbrev pub choices_in : Request → Choices
choices_in r = record { indent = r.indent.now; numbers = r.numbers; strengths = r.strengths.now }

-- the numbers of the options
abbrev pub numbers_of : ℕ → ℕ → ℕ → ℕ → ℕ → OptionNumbers
numbers_of widthSet width lineEnding finalNewline ruler_tab =
    record {
      width_set = widthSet;
      width = width;
      line_ending = lineEnding;
      final_newline = finalNewline;
      ruler_tab = ruler_tab;
    }

-- the outcome r of the call c, and what its buffers hold after it
pub record Ran (c : Call) (r : Outcome) (out list work : List ℕ) : Type 0 where
  pub outcome : r ≡ outcome_of c
  pub output : out ≡ output_of c
  pub opened : list ≡ opened_of c
  pub scratch : work ≡ scratch_of c
