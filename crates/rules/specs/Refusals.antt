-- Who can get a call turned away: the refusals' numbers and places, how they are tested, and the tests that several
-- calls share.
use Rattle.std.specs.Prelude.{ℕ, ◌+◌, ◌*◌, Bool, true, false, not, List, [], ◌∷◌, ltb, eqb, length, Result, Ok, Err}
use Rattle.utf8.specs.Unicode.{well_formed, prefix_len}
use Rattle.rules.specs.Strengths.{table_length, last_bits}
use Rattle.rules.specs.Options.{max_ruler}
use Rattle.rules.specs.declared.Refusal.{Refusal}

-- the longest source, in bytes
abbrev pub max_source : ℕ
max_source = 1048576

-- the scratch that a source needs: so many bytes for each of its own, and 256
abbrev pub scratch_needed : ℕ → List ℕ → ℕ
scratch_needed each source = each * length source + 256

-- a refusal's number and its place; a place that isn't named is 0
abbrev pub number_of : Refusal → ℕ
number_of Refusal.SourceTooLong = 1
number_of Refusal.BadOption = 2
number_of (Refusal.ScratchShort needed) = 3
number_of (Refusal.NotUtf8 prefix) = 4
number_of (Refusal.OutputShort needed) = 5
number_of Refusal.NoPlace = 6
number_of Refusal.PlacesUnordered = 9
number_of Refusal.KindsShort = 10
number_of Refusal.RulerTooWide = 11
number_of Refusal.StrengthsLength = 12
number_of Refusal.StrengthsBits = 13
number_of (Refusal.ListShort needed) = 16

abbrev pub place_of : Refusal → ℕ
place_of Refusal.SourceTooLong = max_source
place_of Refusal.BadOption = 0
place_of (Refusal.ScratchShort needed) = needed
place_of (Refusal.NotUtf8 prefix) = prefix
place_of (Refusal.OutputShort needed) = needed
place_of Refusal.NoPlace = 0
place_of Refusal.PlacesUnordered = 0
place_of Refusal.KindsShort = 0
place_of Refusal.RulerTooWide = 0
place_of Refusal.StrengthsLength = 0
place_of Refusal.StrengthsBits = 0
place_of (Refusal.ListShort needed) = needed

-- what the tests of a call come to: nothing, or a refusal
abbrev pub Verdict : Type 0
Verdict = Result (Unit {0}) Refusal

-- a test refuses if it applies
abbrev pub refuse_if : Bool → Refusal → Verdict
refuse_if true r = Err r
refuse_if false r = Ok tt

-- the first test that applies is given; a call to which none applies is accepted
abbrev pub tested : List Verdict → Verdict
tested [] = Ok tt
tested (Ok _ ∷ ts) = tested ts
tested (Err r ∷ ts) = Err r

-- what follows a step that is not refused
abbrev pub and_then : {A B : Type 0} → Result A Refusal → (A → Result B Refusal) → Result B Refusal
and_then (Ok x) f = f x
and_then (Err r) f = Err r

-- ---- the tests, each of which lets pass what is exactly at its limit

-- 1
abbrev pub long_source : List ℕ → Verdict
long_source source = refuse_if (ltb max_source (length source)) Refusal.SourceTooLong

-- 2
abbrev pub bad_option : Bool → Verdict
bad_option bad = refuse_if bad Refusal.BadOption

-- 3
abbrev pub short_scratch : ℕ → ℕ → Verdict
short_scratch needed scratch = refuse_if (ltb scratch needed) (Refusal.ScratchShort needed)

-- 4
abbrev pub ill_formed : List ℕ → Verdict
ill_formed source = refuse_if (not (well_formed source)) (Refusal.NotUtf8 (prefix_len source))

-- 5
abbrev pub short_output : ℕ → ℕ → Verdict
short_output needed output = refuse_if (ltb output needed) (Refusal.OutputShort needed)

-- 6
abbrev pub no_place : Bool → Verdict
no_place is_place = refuse_if (not is_place) Refusal.NoPlace

-- 9
abbrev pub unordered : Bool → Verdict
unordered inOrder = refuse_if (not inOrder) Refusal.PlacesUnordered

-- 10
abbrev pub short_kinds : ℕ → ℕ → Verdict
short_kinds needed kinds = refuse_if (ltb kinds needed) Refusal.KindsShort

-- 11
abbrev pub wide_ruler : ℕ → Verdict
wide_ruler ruler = refuse_if (ltb max_ruler ruler) Refusal.RulerTooWide

-- 12
abbrev pub wrong_length : List ℕ → Verdict
wrong_length table = refuse_if (not (eqb (length table) table_length)) Refusal.StrengthsLength

-- 13
abbrev pub bits_set : List ℕ → Verdict
bits_set table = refuse_if (not (eqb (last_bits table) 0)) Refusal.StrengthsBits

-- 16, of a list with room for so many changes
abbrev pub short_list : ℕ → ℕ → Verdict
short_list needed room = refuse_if (ltb room needed) (Refusal.ListShort needed)
