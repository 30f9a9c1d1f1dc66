-- Laws of the tests of a call.
--     numbered                no refusal has the number 0
--     test_off, test_on       a test that doesn't apply, and one that does
--     pass, stop              the tests after one that lets the call pass, and after one that refuses it
--     one_test                a test by itself
--     goes_on_law, ends           pass and stop, of a whole list of tests
--     then_passed, then_value, then_refused   a value that follows the tests; handed_on what `?` gives of a refusal
--     Readable                what a source that passed 1, 3 and 4 is; readable
use Prim.Native.Nat.{ℕ, ◌≤◌}
use mathlib.Core.Bool.{Bool, true, false}
use mathlib.Core.List.{List, [], ◌∷◌, ◌++◌}
use mathlib.Core.Path.{◌≡◌, refl, sym, ◌∙◌}
use native.Mathlib.Omega.{arith}
use lib.ListN.{length}
use borrow.Author.Tests.{ltb-false, not-false}
use Rattle.utf8.specs.Unicode.{well_formed}
use Rattle.rules.specs.Basics.{choose}
use Rattle.rules.specs.Options.{max_ruler}
use Rattle.std.specs.Prelude.{Result, Ok, Err, IsErr, IsErrAnd}
use Rattle.rules.specs.Refusals.{Verdict, max_source, scratch_needed, number_of, refuse_if, tested, and_then, long_source, bad_option, short_scratch, ill_formed, short_output, unordered, short_kinds, wide_ruler}
use Rattle.rules.specs.declared.Refusal.{Refusal}

-- ---- numbers

-- 0 says that a call is accepted: no refusal has it
pub numbered : (r : Refusal) → number_of r ≡ 0 → ⊥
numbered Refusal.SourceTooLong e = omega arith
numbered Refusal.BadOption e = omega arith
numbered (Refusal.ScratchShort n) e = omega arith
numbered (Refusal.NotUtf8 n) e = omega arith
numbered (Refusal.OutputShort n) e = omega arith
numbered Refusal.NoPlace e = omega arith
numbered Refusal.PlacesUnordered e = omega arith
numbered Refusal.KindsShort e = omega arith
numbered Refusal.RulerTooWide e = omega arith
numbered Refusal.StrengthsLength e = omega arith
numbered Refusal.StrengthsBits e = omega arith
numbered (Refusal.ListShort n) e = omega arith

-- ---- one test

pub test_on : (b : Bool) (r : Refusal) → b ≡ true → refuse_if b r ≡ Err r
unfolding choose
test_on b r e = rw e

pub test_off : (b : Bool) (r : Refusal) → b ≡ false → refuse_if b r ≡ Ok tt
unfolding choose
test_off b r e = rw e

passed_off : (b : Bool) (r : Refusal) → refuse_if b r ≡ Ok tt → b ≡ false
unfolding choose
passed_off true r e = absurd (let z : ◌≡◌ {A = ℕ} 0 1 = cc in omega arith)
passed_off false r e = refl

pub source_short : (source : List ℕ) → long_source source ≡ Ok tt → length source ≤ max_source
source_short source e = ltb-false max_source (length source) (passed_off _ _ e)

pub option_good : (bad : Bool) → bad_option bad ≡ Ok tt → bad ≡ false
option_good bad e = passed_off bad _ e

pub scratch_fits : (needed scratch : ℕ) → short_scratch needed scratch ≡ Ok tt → needed ≤ scratch
scratch_fits needed scratch e = ltb-false scratch needed (passed_off _ _ e)

pub source_well : (source : List ℕ) → ill_formed source ≡ Ok tt → well_formed source ≡ true
source_well source e = not-false (well_formed source) (passed_off _ _ e)

pub output_fits : (needed output : ℕ) → short_output needed output ≡ Ok tt → needed ≤ output
output_fits needed output e = ltb-false output needed (passed_off _ _ e)

pub places_ordered : (inOrder : Bool) → unordered inOrder ≡ Ok tt → inOrder ≡ true
places_ordered inOrder e = not-false inOrder (passed_off _ _ e)

pub kinds_fit : (needed kinds : ℕ) → short_kinds needed kinds ≡ Ok tt → needed ≤ kinds
kinds_fit needed kinds e = ltb-false kinds needed (passed_off _ _ e)

pub ruler_fits : (ruler : ℕ) → wide_ruler ruler ≡ Ok tt → ruler ≤ max_ruler
ruler_fits ruler e = ltb-false max_ruler ruler (passed_off _ _ e)

-- ---- several tests

pub pass : (v : Verdict) (ts : List Verdict) → v ≡ Ok tt → tested (v ∷ ts) ≡ tested ts
pass v ts e = rw e

pub stop : (v : Verdict) (r : Refusal) (ts : List Verdict) → v ≡ Err r → tested (v ∷ ts) ≡ Err r
stop v r ts e = rw e

pub one_test : (v : Verdict) → tested (v ∷ []) ≡ v
one_test (Ok _) = refl
one_test (Err r) = refl

pub goes_on_law : (ts us : List Verdict) → tested ts ≡ Ok tt → tested (ts ++ us) ≡ tested us
goes_on_law [] us e = refl
goes_on_law (Ok _ ∷ ts) us e = goes_on_law ts us e
goes_on_law (Err r ∷ ts) us e = absurd (let z : ◌≡◌ {A = ℕ} 0 1 = cc in omega arith)

pub ends : (ts us : List Verdict) (r : Refusal) → tested ts ≡ Err r → tested (ts ++ us) ≡ Err r
ends [] us r e = absurd (let z : ◌≡◌ {A = ℕ} 0 1 = cc in omega arith)
ends (Ok _ ∷ ts) us r e = ends ts us r e
ends (Err q ∷ ts) us r e = e

pub head_passed : (v : Verdict) (ts : List Verdict) → tested (v ∷ ts) ≡ Ok tt → v ≡ Ok tt
head_passed (Ok _) ts e = refl
head_passed (Err r) ts e = e

pub tail_passed : (v : Verdict) (ts : List Verdict) → tested (v ∷ ts) ≡ Ok tt → tested ts ≡ Ok tt
tail_passed v ts e = sym (pass v ts (head_passed v ts e)) ∙ e

pub front_passed : (ts us : List Verdict) → tested (ts ++ us) ≡ Ok tt → tested ts ≡ Ok tt
front_passed [] us e = refl
front_passed (Ok _ ∷ ts) us e = front_passed ts us e
front_passed (Err r ∷ ts) us e = e

pub back_passed : (ts us : List Verdict) → tested (ts ++ us) ≡ Ok tt → tested us ≡ Ok tt
back_passed ts us e = sym (goes_on_law ts us (front_passed ts us e)) ∙ e

-- what was tested, if a value follows the tests
pub then_passed : {A : Type 0} (v : Verdict) (x y : A) → and_then v (λ _. Ok x) ≡ Ok y → v ≡ Ok tt
then_passed (Ok _) x y e = refl
then_passed (Err r) x y e = absurd (let z : ◌≡◌ {A = ℕ} 0 1 = cc in omega arith)

pub then_value : {A : Type 0} (v : Verdict) (x y : A) → and_then v (λ _. Ok x) ≡ Ok y → y ≡ x
then_value (Ok _) x y e = cc
then_value (Err r) x y e = absurd (let z : ◌≡◌ {A = ℕ} 0 1 = cc in omega arith)

pub then_refused : {A : Type 0} (v : Verdict) (x : A) (r : Refusal) → and_then v (λ _. Ok x) ≡ Err r → v ≡ Err r
then_refused (Ok _) x r e = absurd (let z : ◌≡◌ {A = ℕ} 0 1 = cc in omega arith)
then_refused (Err q) x r e = cc

-- what `?` hands on of a refusal
pub handed_on : {A : Type 0} (r : Result A Refusal) (why : Refusal) → IsErr r × IsErrAnd r (λ e. e ≡ why) → r ≡ Err why
handed_on (Ok x) why h = absurd h.1
handed_on (Err q) why h = rw h.1

-- ---- what passed

-- a source that passed 1, 3 and 4, with a scratch of so many bytes for each of its own
pub record Readable (each : ℕ) (source : List ℕ) (scratch : ℕ) : Type 0 where
  pub short : length source ≤ max_source
  pub room : scratch_needed each source ≤ scratch
  pub well : well_formed source ≡ true

pub readable : (each : ℕ) (source : List ℕ) (scratch : ℕ) → long_source source ≡ Ok tt
    → tested (short_scratch (scratch_needed each source) scratch ∷ ill_formed source ∷ []) ≡ Ok tt → Readable each source scratch
readable each source scratch a b =
    record {
      short = source_short source a;
      room = scratch_fits (scratch_needed each source) scratch (head_passed room_test (ill_formed source ∷ []) b);
      well = source_well source (head_passed (ill_formed source) [] (tail_passed room_test (ill_formed source ∷ []) b));
    }
  where
    room_test : Verdict
    room_test = short_scratch (scratch_needed each source) scratch
