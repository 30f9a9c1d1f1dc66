-- What a call comes to, by the tests in their order; and what it leaves.
--     kind_refused, kind_found  the outcome; source_fits what the tests leave
use Prim.Native.Nat.{ℕ}
use native.Mathlib.Omega.{arith}
use mathlib.Core.List.{List, [], ◌∷◌}
use mathlib.Core.Path.{◌≡◌, sym, ap, ◌∙◌}
use lib.ListN.{length, replicate}
use Rattle.utf8.specs.Unicode.{decode}
use Rattle.utf8.proofs.Decode.{test_wf}
use Rattle.rules.specs.declared.Refusal.{Refusal}
use Rattle.std.specs.Prelude.{Ok, Err}
use Rattle.rules.specs.declared.TextKind.{TextKind}
use Rattle.rules.specs.declared.Kind.{Kind}
use Rattle.rules.specs.Refusals.{Verdict, scratch_needed, tested, long_source, short_scratch, ill_formed}
use Rattle.rules.specs.TextKind.{kind_scratch, kind_tests, text_kind_at, kind_outcome_of, kind_answer}
use Rattle.rules.proofs.RefusalLaws.{head_passed, tail_passed, Readable, readable}
use Rattle.text_kind.specs.Kind.{SourceFits}
use Rattle.text_kind.specs.KindAnswered.{KindAnswered}

module _ (source : List ℕ) (line col scratch : ℕ) (v : Verdict) (e : v ≡ tested (kind_tests source scratch)) where
  pub kind_refused : (why : Refusal) → v ≡ Err why → Err why ≡ kind_outcome_of source line col scratch
  unfolding kind_outcome_of
  kind_refused why p = rw (← e, p)

  pub kind_found : (kind : TextKind) → v ≡ Ok tt → kind ≡ text_kind_at (decode source) line col
      → Ok kind ≡ kind_outcome_of source line col scratch
  unfolding kind_outcome_of
  kind_found kind p q = rw (← e, p, q)

pub source_fits : (source scratch : List ℕ) (v : Verdict) → v ≡ tested (kind_tests source (length scratch)) → v ≡ Ok tt
    → SourceFits source scratch
source_fits source scratch v e p =
    let t : tested (kind_tests source (length scratch)) ≡ Ok tt = sym e ∙ p in
    let r : Readable kind_scratch source (length scratch) =
    readable kind_scratch source (length scratch) (head_passed (long_source source) rest t) (tail_passed (long_source source) rest t) in
    record { well = test_wf source r.well; room = omega (arith, r.room); short = omega (arith, r.short) }
  where
    rest : List Verdict
    rest = short_scratch (scratch_needed kind_scratch source) (length scratch) ∷ ill_formed source ∷ []

pub answered : (source : List ℕ) (line col : ℕ) (before mid after : List ℕ) (r : Kind) → r ≡ kind_answer (kind_outcome_of source line col (length before))
    → length mid ≡ length before → after ≡ replicate (length mid) 0 → KindAnswered source line col before after r
answered source line col before mid after r e n z = record { answer = e; scratch = z ∙ ap (λ (m : ℕ). replicate m 0) n }
