-- A formatting call with a list for the changes from the source to the text.
use Rattle.std.specs.Prelude.{ℕ, ◌/◌, List, [], ◌∷◌, length, replicate, Result, Ok, Err}
use Rattle.utf8.specs.Unicode.{decode}
use Rattle.rules.specs.Refusals.{Verdict, number_of, place_of, tested, short_list}
use Rattle.rules.specs.Call.{Call, formatted, verdict_of, filled}
use Rattle.rules.specs.declared.Answer.{Answer}
use Rattle.changes.specs.Changes.{changes, numbers}
use Rattle.changes.specs.declared.Change.{Change}
use Rattle.rules.specs.declared.Refusal.{Refusal}
use Rattle.edits.specs.declared.with_changes.WithChanges.{WithChanges}
use Rattle.edits.specs.declared.with_changes.ChangesAnswer.{ChangesAnswer}

-- the changes from a call's source to its text
unfoldable pub changes_of : Call → List Change
changes_of c = changes (decode c.source) (formatted c).text

-- what refuses a formatting call, then 16, of a list of so many numbers
unfoldable pub changes_verdict : Call → ℕ → Verdict
changes_verdict c room = tested (verdict_of c ∷ short_list (length (changes_of c)) (room / 4) ∷ [])

-- refused, every other field is 0
abbrev pub refused_changes : ℕ → ℕ → ChangesAnswer
refused_changes number place =
    record { refusal = number; place = place; length = 0; imports_split = 0; blank_names = 0; changes = 0 }

-- what a call with a list for changes comes to, in numbers
abbrev pub changes_told : Result WithChanges Refusal → ChangesAnswer
changes_told (Ok m) =
    record {
      refusal = 0;
      place = 0;
      length = m.text.length;
      imports_split = m.text.imports_split;
      blank_names = m.text.blank_names;
      changes = m.changes;
    }
changes_told (Err r) = refused_changes (number_of r) (place_of r)

-- the answer of the formatting call, with the number of changes
abbrev pub changes_answer : Verdict → Answer → List Change → ChangesAnswer
changes_answer (Ok _) a cs =
    record {
      refusal = 0;
      place = 0;
      length = a.length;
      imports_split = a.imports_split;
      blank_names = a.blank_names;
      changes = length cs;
    }
changes_answer (Err r) a cs = refused_changes (number_of r) (place_of r)

-- the changes in the list, then zeros; refused, all zeros
abbrev pub list_left : Verdict → ℕ → List Change → List ℕ
list_left (Ok _) room cs = filled room (numbers cs)
list_left (Err r) room cs = replicate room 0
