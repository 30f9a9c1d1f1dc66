-- What a call comes to, by the tests in their order.
use Prim.Native.Nat.{ℕ, ◌/◌, ◌<◌, ◌≤◌}
use native.Mathlib.Omega.{arith}
use mathlib.Core.Bool.{Bool, true}
use mathlib.Core.List.{List, [], ◌∷◌, ◌++◌}
use mathlib.Core.Path.{◌≡◌, refl, sym, ap, ◌∙◌}
use borrow.Author.Tests.{lt-ltb, le-ltb}
use lib.ListN.{length, replicate}
use Rattle.rules.specs.declared.Refusal.{Refusal}
use Rattle.std.specs.Prelude.{Result, Ok, Err}
use Rattle.rules.specs.Refusals.{Verdict, tested, unordered, short_kinds}
use Rattle.rules.specs.TextKind.{kind_tests}
use Rattle.rules.proofs.RefusalLaws.{places_ordered, kinds_fit, head_passed, tail_passed, goes_on_law, ends, front_passed, back_passed}
use Rattle.text_kind.specs.Kind.{SourceFits}
use Rattle.text_kind.proofs.KindCall.{source_fits}
use Rattle.text_kinds.specs.Places.{places_in, ascending, list_tests, kinds_verdict, kinds_answer}
use Rattle.text_kinds.specs.Reading.{place_count, Listed, KindsFound, KindsRan, KindsGiven}
use Rattle.text_kinds.specs.KindsAnswered.{KindsAnswered}
use Rattle.text_kinds.specs.declared.Kinds.{Kinds}
use Rattle.text_kinds.proofs.PlaceLaws.{count_half}

-- ---- the list

module _ (list : List ℕ) (room : ℕ) (b : Bool) (e : b ≡ ascending (places_in list)) where
  module _ (t : b ≡ true) where
    pub too_few : room < length list / 2 → Err Refusal.KindsShort ≡ tested (list_tests list room)
    too_few h = rw (← e, t, lt-ltb room (place_count list) (omega (arith, count_half list)))

    pub in_order : length list / 2 ≤ room → Ok tt ≡ tested (list_tests list room)
    in_order h = rw (← e, t, le-ltb room (place_count list) (omega (arith, count_half list)))

-- ---- source and list

module _ (source list : List ℕ) (room scratch : ℕ) (v : Verdict) (e : v ≡ tested (kind_tests source scratch)) where
  pub source_refused : (why : Refusal) → v ≡ Err why → Err why ≡ kinds_verdict source list room scratch
  unfolding kinds_verdict
  source_refused why p = sym (ends (kind_tests source scratch) (list_tests list room) why (sym e ∙ p))

  pub source_passed : (r : Verdict) → v ≡ Ok tt → r ≡ tested (list_tests list room) → r ≡ kinds_verdict source list room scratch
  unfolding kinds_verdict
  source_passed r p q = q ∙ sym (goes_on_law (kind_tests source scratch) (list_tests list room) (sym e ∙ p))

module _ (source list : List ℕ) (room : ℕ) (scratch : List ℕ) (v : Verdict) (e : v ≡ kinds_verdict source list room (length scratch)) where
  pub kinds_refused : (why : Refusal) (kinds : List ℕ) → v ≡ Err why → kinds ≡ replicate room 0
      → KindsRan source list room (length scratch) (Err why) kinds
  kinds_refused why kinds p z =
      let w : kinds_verdict source list room (length scratch) ≡ Err why = sym e ∙ p in record { outcome = rw w; answers = z ∙ rw w }

  module _ (p : v ≡ Ok tt) where
    passed : tested (kind_tests source (length scratch) ++ list_tests list room) ≡ Ok tt
    unfolding kinds_verdict
    passed = sym e ∙ p

    pub kinds_fits : SourceFits source scratch
    kinds_fits = source_fits source scratch (tested (kind_tests source (length scratch))) refl (front_passed (kind_tests source (length scratch)) (list_tests list room) passed)

    list_passed : tested (list_tests list room) ≡ Ok tt
    list_passed = back_passed (kind_tests source (length scratch)) (list_tests list room) passed

    pub kinds_listed : (kinds : List ℕ) → length kinds ≡ room → Listed list kinds
    kinds_listed kinds h =
        record {
          order = places_ordered (ascending (places_in list)) (head_passed order (fits ∷ []) list_passed);
          room = omega (arith, kinds_fit (place_count list) room (head_passed fits [] (tail_passed order (fits ∷ []) list_passed)));
        }
      where
        order : Verdict
        order = unordered (ascending (places_in list))

        fits : Verdict
        fits = short_kinds (place_count list) room

    pub kinds_found : (lines : ℕ) (kinds : List ℕ) → KindsFound source list room lines kinds
        → KindsRan source list room (length scratch) (Ok lines) kinds
    kinds_found lines kinds f =
        let w : kinds_verdict source list room (length scratch) ≡ Ok tt = sym e ∙ p in
        record { outcome = rw (w, f.lines); answers = f.answers ∙ rw w }

pub kinds_told : (source list : List ℕ) (room scratch : ℕ) (o : Result ℕ Refusal) (kinds : List ℕ) (r : Kinds) → KindsRan source list room scratch o kinds
    → r ≡ kinds_answer o → KindsGiven source list room scratch r kinds
kinds_told source list room scratch o kinds r w e = record { answer = e ∙ ap kinds_answer w.outcome; answers = w.answers }

-- what the exported function leaves
pub kinds_answered : (source list : List ℕ) (room : ℕ) (before mid after : List ℕ) (r : Kinds) (kinds : List ℕ) → KindsGiven source list room (length before) r kinds
    → length mid ≡ length before → after ≡ replicate (length mid) 0 → KindsAnswered source list room before after r kinds
kinds_answered source list room before mid after r kinds g n z =
    record { answer = g.answer; answers = g.answers; scratch = z ∙ ap (λ (m : ℕ). replicate m 0) n }
