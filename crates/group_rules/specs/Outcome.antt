-- C-21: a grouping call on bytes: what it gives back, and what the output and the scratch hold after it.
use Rattle.std.specs.Prelude.{ℕ, List, [], ◌∷◌, ltb, replicate, Result, Ok, Err}
use Rattle.utf8.specs.Unicode.{decode, encode, size}
use Rattle.rules.specs.Basics.{choose}
use Rattle.rules.specs.Refusals.{Verdict, scratch_needed, number_of, place_of, tested, long_source, short_scratch, ill_formed}
use Rattle.rules.specs.Call.{filled}
use Rattle.rules.specs.declared.Refusal.{Refusal}
use Rattle.group_rules.specs.Expression.{fault_number}
use Rattle.group_rules.specs.Grouping.{Grouping, text, no_text, grouping}
use Rattle.group_rules.specs.declared.GroupRefusal.{GroupRefusal}
use Rattle.group_rules.specs.declared.GroupAnswer.{GroupAnswer}

-- 12 times the source's length and 256: the sum for formatting
abbrev pub group_each : ℕ
group_each = 12

abbrev pub group_scratch : List ℕ → ℕ
group_scratch source = scratch_needed group_each source

-- ---- the refusals: 1, 3, 4, then 14 or 15, whichever place comes first, then 5

-- what a call comes to: its text's length, or a refusal
abbrev pub GroupOutcome : Type 0
GroupOutcome = Result ℕ GroupRefusal

abbrev pub group_tests : List ℕ → ℕ → List Verdict
group_tests source scratch =
    long_source source ∷ short_scratch (group_scratch source) scratch ∷ ill_formed source ∷ []

unfoldable pub grouping_in : ℕ → Grouping → GroupOutcome
grouping_in room (text t) =
    choose (ltb room (size t)) (Err (GroupRefusal.Call (Refusal.OutputShort (size t)))) (Ok (size t))
grouping_in room (no_text f p) = Err (GroupRefusal.NoText (record { fault = f; place = p }))

abbrev pub group_after : Verdict → GroupOutcome → GroupOutcome
group_after (Ok _) o = o
group_after (Err r) o = Err (GroupRefusal.Call r)

-- of a source, in an output and a scratch of so many bytes
unfoldable pub group_outcome : List ℕ → ℕ → ℕ → GroupOutcome
group_outcome source room scratch =
    group_after (tested (group_tests source scratch)) (grouping_in room (grouping (decode source)))

-- what the host reads: a refused call gives number and place, and no length
abbrev pub group_number : GroupRefusal → ℕ
group_number (GroupRefusal.NoText w) = fault_number w.fault
group_number (GroupRefusal.Call r) = number_of r

abbrev pub group_place : GroupRefusal → ℕ
group_place (GroupRefusal.NoText w) = w.place
group_place (GroupRefusal.Call r) = place_of r

abbrev pub group_answer : GroupOutcome → GroupAnswer
group_answer (Ok len) = record { refusal = 0; place = 0; length = len }
group_answer (Err w) = record { refusal = group_number w; place = group_place w; length = 0 }

-- ---- the output is the text, then zeros, or all zeros

unfoldable pub grouped_text : Grouping → List ℕ
grouped_text (text t) = encode t
grouped_text (no_text f p) = []

abbrev pub group_output_for : GroupOutcome → ℕ → List ℕ → List ℕ
group_output_for (Ok len) room t = filled room t
group_output_for (Err w) room t = replicate room 0

unfoldable pub group_output : List ℕ → ℕ → ℕ → List ℕ
group_output source room scratch =
    group_output_for (group_outcome source room scratch) room (grouped_text (grouping (decode source)))
