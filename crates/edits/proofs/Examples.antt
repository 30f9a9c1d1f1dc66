-- Calls from their source to what they leave, computed.
use Prim.Native.Nat.{ℕ}
use mathlib.Core.List.{[], ◌∷◌}
use mathlib.Core.Path.{◌≡◌, refl}
use Rattle.rules.specs.Basics.{codes}
use Rattle.rules.specs.Options.{defaults}
use Rattle.rules.specs.Strengths.{built_in}
use Rattle.rules.specs.Choices.{default_numbers}
use Rattle.rules.specs.Call.{Call, format_call}
use Rattle.rules.specs.declared.Refusal.{Refusal}
use Rattle.std.specs.Prelude.{Err}
use Rattle.caret.proofs.Examples as caretExamples
use Rattle.changes.proofs.Examples as changesExamples
use Rattle.edits.specs.CaretCall.{caret_verdict, caret_in, caret_answer}
use Rattle.edits.specs.ChangesCall.{changes_of, changes_verdict, list_left}

unfoldable opened : Unit {0}
unfolding caretExamples.opened changesExamples.opened caret_verdict caret_in changes_of changes_verdict
opened = tt

-- ` a  b `, of which the text is `a b` and LF
abbrev spaced : Call
spaced = record {
  source = codes " a  b ";
  choices =
      record { indent = defaults.indent; numbers = default_numbers; strengths = built_in };
  output = 5;
  opened = 0;
  scratch = 400;
}

-- before b; in the white space behind a; before a
moved : (column : ℕ) → ℕ × ℕ
moved column =
    let a = caret_answer (caret_verdict spaced 0 column) (format_call spaced).answer (caret_in spaced 0 column) in
    (a.line, a.column)

before_b : moved 4 ≡ (0, 2)
unfolding opened moved
before_b = refl

behind_a : moved 3 ≡ (0, 1)
unfolding opened moved
behind_a = refl

before_a : moved 0 ≡ (0, 0)
unfolding opened moved
before_a = refl

past_the_line : caret_verdict spaced 0 7 ≡ Err Refusal.NoPlace
unfolding opened
past_the_line = refl

past_the_last : caret_verdict spaced 1 0 ≡ Err Refusal.NoPlace
unfolding opened
past_the_last = refl

listed : list_left (changes_verdict spaced 13) 13
    (changes_of spaced) ≡ 0 ∷ 1 ∷ 0 ∷ 0 ∷ 2 ∷ 2 ∷ 1 ∷ 1 ∷ 5 ∷ 1 ∷ 3 ∷ 1 ∷ 0 ∷ []
unfolding opened
listed = refl

short_by_one : changes_verdict spaced 11 ≡ Err (Refusal.ListShort 3)
unfolding opened
short_by_one = refl
