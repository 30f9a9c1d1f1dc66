-- What a call that gives more than the text leaves in the output.
use Rattle.std.specs.Prelude.{ℕ, List, replicate, Ok, Err}
use Rattle.rules.specs.Refusals.{Verdict}
use Rattle.rules.specs.Call.{Call, Outcome, format_call}
use Rattle.call.specs.Ran.{Ran}

-- what a formatting call leaves; refused, all zeros
abbrev pub text_left : Verdict → Call → List ℕ
text_left (Ok _) c = (format_call c).output
text_left (Err r) c = replicate c.output 0

-- what a formatting call comes to that is lent some list for the open brackets
pub record TextRan (c : Call) (r : Outcome) (out work : List ℕ) : Type 0 where
  pub list : List ℕ
  pub is : Ran c r out list work
