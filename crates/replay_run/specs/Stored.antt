-- The stored list: how a number and a case stand in it.
use Rattle.std.specs.Prelude.{ℕ, ◌+◌, ◌*◌, ◌-◌, ◌≤◌, ◌<◌, List, [], ◌∷◌, ◌≡◌, leb, ltb, length, drop}
use Rattle.rules.specs.Basics.{choose}
use Rattle.replay_run.specs.declared.list.Number.{Number}
use Rattle.replay_run.specs.declared.list.Case.{Case}

-- the number that n and the digits that follow it spell, and the place after the byte that ends it
unfoldable pub number_at : ℕ → ℕ → List ℕ → Number
number_at n at [] = record { value = n; next = at }
number_at n at (c ∷ s) =
    choose (ltb c 48) (record { value = n; next = at + 1 })
    (choose (ltb 57 c) (record { value = n; next = at + 1 })
    (choose (leb 100000000 n) (record { value = n; next = at + 1 })
    (number_at (n * 10 + (c - 48)) (at + 1) s)))

-- the number that stands at `at`
abbrev pub number_in : List ℕ → ℕ → Number
number_in list at = number_at 0 at (drop at list)

pub record NumberRead (list : List ℕ) (at : ℕ) (r : Number) : Type 0 where
  pub is : r ≡ number_in list at
  pub from : at ≤ r.next
  pub fits : r.next ≤ length list
  pub small : r.value < 1000000000

-- a case from its seven numbers
abbrev pub case_of : (source indent answer widthSet width lineEnding finalNewline : Number) → Case
case_of source indent answer widthSet width lineEnding finalNewline =
    record {
      from = finalNewline.next;
      source = source.value;
      indent = indent.value;
      answer = answer.value;
      width_set = widthSet.value;
      width = width.value;
      line_ending = lineEnding.value;
      final_newline = finalNewline.value;
    }

-- the case whose first number stands at `at`
unfoldable pub case_at : List ℕ → ℕ → Case
case_at list at =
    let source = number_in list at in
    let indent = number_in list source.next in
    let answer = number_in list indent.next in
    let widthSet = number_in list answer.next in
    let width = number_in list widthSet.next in
    let lineEnding = number_in list width.next in
    case_of source indent answer widthSet width lineEnding (number_in list lineEnding.next)

pub record CaseRead (list : List ℕ) (at : ℕ) (r : Case) : Type 0 where
  pub is : r ≡ case_at list at
  pub from : at ≤ r.from
  pub fits : r.from ≤ length list
  pub source : r.source < 1000000000
  pub indent : r.indent < 1000000000
  pub answer : r.answer < 1000000000

-- where a case's indent, its answer and its end stand
abbrev pub indent_at : Case → ℕ
indent_at c = c.from + c.source

abbrev pub answer_at : Case → ℕ
answer_at c = indent_at c + c.indent

abbrev pub end_of : Case → ℕ
end_of c = answer_at c + c.answer

-- the whole case stands in the list
pub record CaseIn (list : List ℕ) (c : Case) : Type 0 where
  pub fits : end_of c ≤ length list
