-- text_kind_at: a place is a line and a character column, both from 0.
use Rattle.std.specs.Prelude.{ℕ, zero, suc, Bool, true, false, List, [], ◌∷◌, get_or, Result, Ok, Err}
use Rattle.utf8.specs.Unicode.{decode}
use Rattle.rules.specs.Basics.{choose, pieces, split_on}
use Rattle.rules.specs.Lines.{drop_cr}
use Rattle.rules.specs.Scan.{next, begin, carry_after}
use Rattle.rules.specs.Refusals.{Verdict, scratch_needed, number_of, place_of, tested, long_source, short_scratch, ill_formed}
use Rattle.rules.specs.declared.Class.{Class}
use Rattle.rules.specs.declared.Carry.{Carry}
use Rattle.rules.specs.declared.Mode.{Mode}
use Rattle.rules.specs.declared.Mark.{Mark}
use Rattle.rules.specs.declared.Refusal.{Refusal}
use Rattle.rules.specs.declared.TextKind.{TextKind}
use Rattle.rules.specs.declared.Kind.{Kind}

-- a character before which the mode is inside `${..}`: from its brace on, up to and with the closing one
unfoldable pub in_interpolation : Mode → Bool
in_interpolation Mode.Code = false
in_interpolation (Mode.Quoted q) = false
in_interpolation (Mode.Interp q d) = true
in_interpolation (Mode.Inner q d k) = true
in_interpolation Mode.Line = false
in_interpolation (Mode.Block d) = false
in_interpolation Mode.Prefab = false

-- prefabs and `${..}` are Code
unfoldable pub class_kind : Class → Bool → TextKind
class_kind Class.Code inside = TextKind.Code
class_kind Class.Str inside = choose inside TextKind.Code TextKind.Str
class_kind Class.LineComment inside = TextKind.Comment
class_kind Class.BlockComment inside = TextKind.Comment
class_kind Class.Prefab inside = TextKind.Code

-- the kind of each character; t is the mark before it
unfoldable pub kinds : Mark → List ℕ → List TextKind
kinds t [] = []
kinds t (c ∷ s) = class_kind (next t (c ∷ s)).class (in_interpolation t.mode) ∷ kinds (next t (c ∷ s)) s

-- Rust's `lines`: a CR goes only before an LF, and no line follows a last LF
unfoldable pub rust_lines : List (List ℕ) → List (List ℕ)
rust_lines [] = []
rust_lines ([] ∷ []) = []
rust_lines ((c ∷ cs) ∷ []) = (c ∷ cs) ∷ []
rust_lines ([] ∷ m ∷ ls) = [] ∷ rust_lines (m ∷ ls)
rust_lines ((c ∷ cs) ∷ m ∷ ls) = drop_cr (c ∷ cs) ∷ rust_lines (m ∷ ls)

-- a place past the end is Code
unfoldable pub kind_in : Carry → List (List ℕ) → ℕ → ℕ → TextKind
kind_in carry [] line col = TextKind.Code
kind_in carry (l ∷ ls) zero col = get_or (kinds (begin carry) l) col TextKind.Code
kind_in carry (l ∷ ls) (suc n) col = kind_in (carry_after carry l) ls n col

unfoldable pub text_kind_at : List ℕ → ℕ → ℕ → TextKind
text_kind_at source line col = kind_in Carry.Code (rust_lines (pieces (split_on "\n" source))) line col

-- ---- the call on bytes: refusals 1, 3 and 4, then the kind

-- 8 times the source's length, and 256
abbrev pub kind_scratch : ℕ
kind_scratch = 8

abbrev pub kind_tests : List ℕ → ℕ → List Verdict
kind_tests source scratch =
    long_source source ∷ short_scratch (scratch_needed kind_scratch source) scratch ∷ ill_formed source ∷ []

abbrev pub kind_after : Verdict → TextKind → Result TextKind Refusal
kind_after (Ok _) k = Ok k
kind_after (Err r) k = Err r

unfoldable pub kind_outcome_of : List ℕ → ℕ → ℕ → ℕ → Result TextKind Refusal
kind_outcome_of source line col scratch =
    kind_after (tested (kind_tests source scratch)) (text_kind_at (decode source) line col)

abbrev pub kind_number : TextKind → ℕ
kind_number TextKind.Code = 0
kind_number TextKind.Str = 1
kind_number TextKind.Comment = 2

abbrev pub kind_answer : Result TextKind Refusal → Kind
kind_answer (Ok k) = record { refusal = 0; place = 0; kind = kind_number k }
kind_answer (Err r) = record { refusal = number_of r; place = place_of r; kind = 0 }
