-- text_kinds: the text kinds of a list of places, how many lines are classified for it, and the refusals.
use Rattle.std.specs.Prelude.{ℕ, suc, min, max, Bool, true, ◌&&◌, ◌||◌, List, [], ◌∷◌, ◌++◌, map, eqb, leb, ltb, length, replicate, Result, Ok, Err}
use Rattle.utf8.specs.Unicode.{decode}
use Rattle.rules.specs.Basics.{pieces, split_on}
use Rattle.rules.specs.Refusals.{Verdict, number_of, place_of, tested, unordered, short_kinds}
use Rattle.rules.specs.Call.{filled}
use Rattle.rules.specs.TextKind.{rust_lines, kind_tests, text_kind_at, kind_number}
use Rattle.rules.specs.declared.Refusal.{Refusal}
use Rattle.text_kinds.specs.declared.Kinds.{Kinds}
pub use Rattle.text_kinds.specs.declared.Place.{Place}

-- a line and a character column, both from 0
abbrev pub place_at : ℕ → ℕ → Place
place_at line column = record { line = line; column = column }

-- a list holds line and column of each place in turn; an incomplete last entry doesn't count
unfoldable pub places_in : List ℕ → List Place
places_in [] = []
places_in (l ∷ []) = []
places_in (l ∷ c ∷ list) = place_at l c ∷ places_in list

-- ascending order of line, then column; equal ones are allowed
unfoldable pub not_after : Place → Place → Bool
not_after p q = ltb p.line q.line || (eqb p.line q.line && leb p.column q.column)

unfoldable pub ascending : List Place → Bool
ascending [] = true
ascending (p ∷ []) = true
ascending (p ∷ q ∷ ps) = not_after p q && ascending (q ∷ ps)

-- the number of `text_kind_at` for a place of a source
unfoldable pub kind_of_place : List ℕ → Place → ℕ
kind_of_place source p = kind_number (text_kind_at source p.line p.column)

-- the largest line asked for plus one, and none for an empty list
unfoldable pub lines_asked : List Place → ℕ
lines_asked [] = 0
lines_asked (p ∷ ps) = max (suc p.line) (lines_asked ps)

-- these lines, or all lines if fewer
unfoldable pub lines_classified : List ℕ → List Place → ℕ
lines_classified source ps = min (lines_asked ps) (length (rust_lines (pieces (split_on "\n" source))))

-- ---- the call on bytes: refusals 1, 3 and 4, then 9, then 10, in `room` answer bytes

abbrev pub list_tests : List ℕ → ℕ → List Verdict
list_tests list room = unordered (ascending (places_in list)) ∷ short_kinds (length (places_in list)) room ∷ []

unfoldable pub kinds_verdict : List ℕ → List ℕ → ℕ → ℕ → Verdict
kinds_verdict source list room scratch = tested (kind_tests source scratch ++ list_tests list room)

-- what the call comes to: how many lines were classified, or a refusal
abbrev pub kinds_after : Verdict → ℕ → Result ℕ Refusal
kinds_after (Ok _) lines = Ok lines
kinds_after (Err r) lines = Err r

-- refused, every other field is 0
abbrev pub kinds_answer : Result ℕ Refusal → Kinds
kinds_answer (Ok lines) = record { refusal = 0; place = 0; lines_classified = lines }
kinds_answer (Err r) = record { refusal = number_of r; place = place_of r; lines_classified = 0 }

-- a byte for each place, zeros after the last; refused, all zeros
abbrev pub kinds_left : Verdict → ℕ → List ℕ → List ℕ
kinds_left (Ok _) room kinds = filled room kinds
kinds_left (Err r) room kinds = replicate room 0

unfoldable pub kinds_of : List ℕ → List ℕ → List ℕ
kinds_of source list = map (kind_of_place (decode source)) (places_in list)
