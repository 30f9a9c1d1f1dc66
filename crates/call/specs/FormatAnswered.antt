-- The exported contract of a formatting call.
use Rattle.std.specs.Prelude.{List, ◌≡◌, ℕ, take}
use Rattle.utf8.specs.Unicode.{decode, WellFormed}
use Rattle.rules.specs.Choices.{options_of}
use Rattle.rules.specs.Call.{Call, format_call}
use Rattle.rules.specs.Demand3.{Kept}
use Rattle.rules.specs.Quoted.{QuotedKept}
use Rattle.rules.specs.declared.Answer.{Answer}

-- The answer r to the call c, and what its output, its list of open brackets and its scratch hold after it.
pub record FormatAnswered (c : Call) (r : Answer) (out list work : List ℕ) : Type 0 where
  pub answer : r ≡ (format_call c).answer
  pub output : out ≡ (format_call c).output
  pub opened : list ≡ (format_call c).opened
  pub scratch : work ≡ (format_call c).scratch
  -- an accepted call's text, which is as many bytes of the output as the answer says, is well-formed UTF-8
  pub well : r.refusal ≡ 0 → WellFormed (take r.length out)
  -- and its characters keep of the source's what demand 3 says, with the answer's counts
  pub kept : r.refusal ≡ 0
      → Kept (options_of c.choices).print_width (decode c.source) (decode (take r.length out))
      r.imports_split r.blank_names
  -- and with no print width its quoted text
  pub quoted : r.refusal ≡ 0 → c.choices.numbers.width_set ≡ 0
      → QuotedKept (options_of c.choices).end_of_line (decode c.source) (decode (take r.length out))
