-- A formatting call with a caret, which stands at a line and a column of the source.
use Rattle.std.specs.Prelude.{ℕ, List, [], ◌∷◌, Result, Ok, Err}
use Rattle.utf8.specs.Unicode.{decode}
use Rattle.rules.specs.Refusals.{Verdict, number_of, place_of, tested, no_place}
use Rattle.rules.specs.Call.{Call, formatted, verdict_of}
use Rattle.rules.specs.declared.Answer.{Answer}
use Rattle.caret.specs.Caret.{is_place, moved_to, line_of, column_of}
use Rattle.rules.specs.declared.Refusal.{Refusal}
use Rattle.edits.specs.declared.with_caret.WithCaret.{WithCaret}
use Rattle.edits.specs.declared.with_caret.CaretAnswer.{CaretAnswer}

-- what refuses a formatting call, then 6
unfoldable pub caret_verdict : Call → ℕ → ℕ → Verdict
caret_verdict c line column = tested (verdict_of c ∷ no_place (is_place line column (decode c.source)) ∷ [])

-- the characters of the text before the caret
unfoldable pub caret_in : Call → ℕ → ℕ → List ℕ
caret_in c line column = moved_to line column (decode c.source) (formatted c).text

-- refused, every other field is 0
abbrev pub refused_caret : ℕ → ℕ → CaretAnswer
refused_caret number place =
    record { refusal = number; place = place; length = 0; imports_split = 0; blank_names = 0; line = 0; column = 0 }

-- what a call with a caret comes to, in numbers
abbrev pub caret_told : Result WithCaret Refusal → CaretAnswer
caret_told (Ok m) =
    record {
      refusal = 0;
      place = 0;
      length = m.text.length;
      imports_split = m.text.imports_split;
      blank_names = m.text.blank_names;
      line = m.to.line;
      column = m.to.column;
    }
caret_told (Err r) = refused_caret (number_of r) (place_of r)

-- the answer of the formatting call, with the line and the column of the place behind l
abbrev pub caret_answer : Verdict → Answer → List ℕ → CaretAnswer
caret_answer (Ok _) a l =
    record {
      refusal = 0;
      place = 0;
      length = a.length;
      imports_split = a.imports_split;
      blank_names = a.blank_names;
      line = line_of l;
      column = column_of l;
    }
caret_answer (Err r) a l = refused_caret (number_of r) (place_of r)
