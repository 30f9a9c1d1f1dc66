-- The exported contract of a formatting call with a list of changes.
use Rattle.std.specs.Prelude.{List, ◌≡◌, ℕ, ◌*◌, take}
use Rattle.utf8.specs.Unicode.{decode, WellFormed}
use Rattle.rules.specs.Choices.{options_of}
use Rattle.rules.specs.Call.{Call, format_call}
use Rattle.rules.specs.Demand3.{Kept}
use Rattle.rules.specs.Quoted.{QuotedKept}
use Rattle.changes.specs.Changes.{changes_in, Faithful}
use Rattle.edits.specs.Text.{text_left}
use Rattle.edits.specs.ChangesCall.{changes_of, changes_verdict, changes_answer, list_left}
use Rattle.edits.specs.declared.with_changes.ChangesAnswer.{ChangesAnswer}

-- The answer r to the call c with a list of so many numbers, and what output, list and scratch hold after it.
pub record ChangesAnswered (c : Call) (room : ℕ) (r : ChangesAnswer) (out list work : List ℕ) : Type 0 where
  pub answer : r ≡ changes_answer (changes_verdict c room) (format_call c).answer (changes_of c)
  pub output : out ≡ text_left (changes_verdict c room) c
  pub changes : list ≡ list_left (changes_verdict c room) room (changes_of c)
  pub scratch : work ≡ (format_call c).scratch
  -- of an accepted call, what a formatting call promises of its text and counts
  pub well : r.refusal ≡ 0 → WellFormed (take r.length out)
  pub kept : r.refusal ≡ 0
      → Kept (options_of c.choices).print_width (decode c.source) (decode (take r.length out))
      r.imports_split r.blank_names
  pub quoted : r.refusal ≡ 0 → c.choices.numbers.width_set ≡ 0
      → QuotedKept (options_of c.choices).end_of_line (decode c.source) (decode (take r.length out))
  -- and the changes that the list holds turn the source's bytes into the text's; they ascend, spare what is kept, and
  -- are none where the text is the source
  pub faithful : r.refusal ≡ 0 → Faithful c.source (take r.length out) (changes_in (take (r.changes * 4) list))
