-- A formatting call on bytes: what it gives back, and what the output, the list of open brackets and the scratch hold
-- after it.
use Rattle.std.specs.Prelude.{ℕ, ◌-◌, Bool, not, List, [], ◌∷◌, ◌++◌, length, take, replicate, Result, Ok, Err}
use Rattle.utf8.specs.Unicode.{decode, encode}
use Rattle.rules.specs.Choices.{Choices, valid_options, options_of}
use Rattle.rules.specs.Assembly.{Formatted, format_with}
use Rattle.rules.specs.Refusals.{Verdict, scratch_needed, number_of, place_of, tested, wrong_length, bits_set}
use Rattle.rules.specs.Refusals.{long_source, bad_option, wide_ruler, short_scratch, ill_formed, short_output}
use Rattle.rules.specs.declared.Refusal.{Refusal}
use Rattle.rules.specs.declared.Formatted.{Formatted as Counted}
use Rattle.rules.specs.declared.Answer.{Answer}

-- What a call gets: bytes, the options, and how long the lent buffers are.
pub record Call : Type 0 where
  pub source : List ℕ
  pub choices : Choices
  pub output : ℕ
  pub opened : ℕ
  pub scratch : ℕ

-- ---- the finished text

unfoldable pub formatted : Call → Formatted
formatted c = format_with (options_of c.choices) (decode c.source)

unfoldable pub text_of : Call → List ℕ
text_of c = encode (formatted c).text

-- ---- the refusals, in the order in which they are tested

-- 12 times the source's length, and 256
abbrev pub format_scratch : ℕ
format_scratch = 12

-- 12, 13, 1, 2, 11, 3 and 4, of a table of strengths, a source, whether an option is bad, the ruler tab, and the
-- scratch's length
abbrev pub format_tests : List ℕ → List ℕ → Bool → ℕ → ℕ → List Verdict
format_tests table source bad ruler scratch =
    wrong_length table
    ∷ bits_set table
    ∷ long_source source
    ∷ bad_option bad
    ∷ wide_ruler ruler
    ∷ short_scratch (scratch_needed format_scratch source) scratch
    ∷ ill_formed source
    ∷ []

unfoldable pub verdict_of : Call → Verdict
verdict_of c =
    tested
    (format_tests c.choices.strengths c.source (not (valid_options c.choices))
    c.choices.numbers.ruler_tab c.scratch
    ++ (short_output (length (text_of c)) c.output ∷ []))

-- what a call comes to: its text's length and counts, or a refusal
abbrev pub Outcome : Type 0
Outcome = Result Counted Refusal

-- what a finished text of so many bytes comes to
abbrev pub outcome_after : Verdict → ℕ → Formatted → Outcome
outcome_after (Ok _) len t =
    Ok
    (record {
      length = len;
      imports_split = t.imports_split;
      blank_names = t.blank_names;
      open_brackets = length t.open_brackets;
    })
outcome_after (Err r) len t = Err r

unfoldable pub outcome_of : Call → Outcome
outcome_of c = outcome_after (verdict_of c) (length (text_of c)) (formatted c)

-- what the host reads: a refused call gives number and place, other fields 0
abbrev pub answer_of : Outcome → Answer
answer_of (Ok t) =
    record {
      refusal = 0;
      place = 0;
      length = t.length;
      imports_split = t.imports_split;
      blank_names = t.blank_names;
      open_brackets = t.open_brackets;
    }
answer_of (Err r) =
    record {
      refusal = number_of r;
      place = place_of r;
      length = 0;
      imports_split = 0;
      blank_names = 0;
      open_brackets = 0;
    }

-- ---- the buffers: the output is the text, then zeros, or all zeros; the scratch is all zeros after every call

unfoldable pub filled : ℕ → List ℕ → List ℕ
filled n text = text ++ replicate (n - length text) 0

abbrev pub output_for : Outcome → ℕ → List ℕ → List ℕ
output_for (Ok t) n text = filled n text
output_for (Err r) n text = replicate n 0

unfoldable pub output_of : Call → List ℕ
output_of c = output_for (outcome_of c) c.output (text_of c)

-- the list of open brackets: as many lines as it has room for, the oldest first, then zeros, or all zeros
unfoldable pub listed : ℕ → List ℕ → List ℕ
listed n lines = filled n (take n lines)

abbrev pub opened_for : Outcome → ℕ → List ℕ → List ℕ
opened_for (Ok t) n lines = listed n lines
opened_for (Err r) n lines = replicate n 0

unfoldable pub opened_of : Call → List ℕ
opened_of c = opened_for (outcome_of c) c.opened (formatted c).open_brackets

abbrev pub scratch_of : Call → List ℕ
scratch_of c = replicate c.scratch 0

-- What a call leaves, in one record.
pub record CallResult : Type 0 where
  pub answer : Answer
  pub output : List ℕ
  pub opened : List ℕ
  pub scratch : List ℕ

abbrev pub format_call : Call → CallResult
format_call c =
    record { answer = answer_of (outcome_of c); output = output_of c; opened = opened_of c; scratch = scratch_of c }
