-- What a run over a stored list comes to, by the rules.
use Rattle.std.specs.Prelude.{ℕ, zero, suc, ◌+◌, ◌-◌, ◌≤◌, ◌<◌, Bool, false, List, ◌≡◌, eqb, leb, ltb, length, drop, get_or}
use Rattle.buffer.specs.Buffer.{part}
use Rattle.rules.specs.Basics.{choose, same, split_on}
use Rattle.rules.specs.Strengths.{built_in}
use Rattle.rules.specs.Call.{Call, format_call, text_of}
use Rattle.call.specs.Ran.{call_of, numbers_of}
use Rattle.replay_run.specs.Stored.{case_at, indent_at, answer_at, end_of}
use Rattle.replay_run.specs.declared.list.Case.{Case}
use Rattle.replay_run.specs.declared.Progress.{Progress}

-- a case's call, with an output of n bytes and a scratch of m
abbrev pub call_in : List ℕ → Case → ℕ → ℕ → Call
call_in list c n m =
    call_of (part list c.from (indent_at c)) (part list (indent_at c) (answer_at c))
    (numbers_of c.width_set c.width c.line_ending c.final_newline 0) built_in n 0 m

-- the call is accepted, and its text is the stored answer
unfoldable pub agrees : List ℕ → Case → ℕ → ℕ → Bool
agrees list c n m =
    choose (eqb (format_call (call_in list c n m)).answer.refusal 0)
    (same (text_of (call_in list c n m)) (part list (answer_at c) (end_of c))) false

-- one source more, which agrees or differs
abbrev pub agreed : Progress → ℕ → Progress
agreed p next = record { at = next; sources = p.sources + 1; differ = p.differ }

abbrev pub differed : Progress → ℕ → Progress
differed p next = record { at = next; sources = p.sources + 1; differ = p.differ + 1 }

-- after a comment: the place after its LF
abbrev pub skipped : List ℕ → Progress → Progress
skipped list p =
    record {
      at = p.at + length (split_on "\n" (drop p.at list)).first + 1;
      sources = p.sources;
      differ = p.differ;
    }

abbrev pub case_size : Case → ℕ
case_size c = c.source + c.indent + c.answer

-- after a case; one that the list's end cuts off differs
unfoldable pub counted : List ℕ → ℕ → ℕ → Progress → Case → Progress
counted list n m p c =
    choose (leb (length list - c.from) (case_size c)) (differed p (length list))
    (choose (agrees list c n m) (agreed p (c.from + case_size c + 1)) (differed p (c.from + case_size c + 1)))

-- after the comment or the case that stands at p's place; `#` is 35
unfoldable pub stepped : List ℕ → ℕ → ℕ → Progress → Progress
stepped list n m p =
    choose (eqb (get_or list p.at 0) 35) (skipped list p) (counted list n m p (case_at list p.at))

-- after at most k comments and cases
unfoldable pub replayed : ℕ → List ℕ → ℕ → ℕ → Progress → Progress
replayed zero list n m p = p
replayed (suc k) list n m p = choose (ltb p.at (length list)) (replayed k list n m (stepped list n m p)) p

abbrev pub from_start : Progress
from_start = record { at = 0; sources = 0; differ = 0 }

-- the counts are at most the place, and a list's place is small
pub record CountsFit (p : Progress) : Type 0 where
  pub differ : p.differ ≤ p.sources
  pub sources : p.sources ≤ p.at
  pub small : p.at ≤ 4294967297

pub record StepReady (list : List ℕ) (p : Progress) : Type 0 where
  pub limit : length list ≤ 4294967296
  pub here : p.at < length list
  pub counts : CountsFit p

pub record Advanced (list : List ℕ) (n m : ℕ) (p r : Progress) : Type 0 where
  pub is : r ≡ stepped list n m p
  pub on : p.at < r.at
  pub counts : CountsFit r
