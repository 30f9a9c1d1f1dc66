-- What a formatting call leaves for the calls that give more than the text.
--     stopped, zeros_left, passed_by   what it refuses, and its verdict
--     answers, alike, text_chars, text_room   the source and the text that it gave
use Prim.Native.Nat.{ℕ, ◌-◌, ◌≤◌}
use mathlib.Core.List.{List, [], ◌∷◌, ◌++◌}
use mathlib.Core.Path.{◌≡◌, refl, sym, ap, ◌∙◌}
use native.Mathlib.Omega.{arith}
use lib.ListN.{length, take, replicate, length-append, length-replicate}
use Rattle.std.specs.Prelude.{Ok, Err}
use Rattle.utf8.specs.Unicode.{decode}
use Rattle.utf8.proofs.Decode.{test_wf}
use Rattle.rules.specs.Refusals.{Verdict, tested}
use Rattle.rules.specs.Call.{Call, Outcome, formatted, text_of, verdict_of, outcome_after, outcome_of, answer_of, filled, output_of}
use Rattle.rules.specs.declared.Refusal.{Refusal}
use Rattle.rules.specs.declared.Formatted.{Formatted}
use Rattle.rules.proofs.RefusalLaws.{pass, stop, one_test}
use Rattle.rules.proofs.CallLaws.{Accepted, accepted}
use Rattle.call.specs.FormatAnswered.{FormatAnswered}
use Rattle.call.proofs.CallLaws.{answered, text_delivered, text_within}
use Rattle.edits.specs.Text.{TextRan}
use Rattle.gaps.specs.Gaps.{Alike}

-- the verdict of an outcome
abbrev after : Call → Verdict → Outcome
after c v = outcome_after v (length (text_of c)) (formatted c)

-- refused, whatever is tested after it
module _ (c : Call) (why : Refusal) (out work : List ℕ) (q : TextRan c (Err why) out work) where
  verdict_is : verdict_of c ≡ Err why
  unfolding outcome_of
  verdict_is = go (verdict_of c) (sym q.is.outcome)
    where
      go : (v : Verdict) → after c v ≡ Err why → v ≡ Err why
      go (Ok _) e = absurd (let z : ◌≡◌ {A = ℕ} 0 1 = cc in omega arith)
      go (Err r) e = cc

  pub stopped : (v : Verdict) → tested (verdict_of c ∷ v ∷ []) ≡ Err why
  stopped v = stop (verdict_of c) why (v ∷ []) verdict_is

  pub zeros_left : out ≡ replicate c.output 0
  unfolding output_of
  zeros_left = q.is.output ∙ rw (← q.is.outcome)

-- the text was given
module _ (c : Call) (t : Formatted) (out work : List ℕ) (q : TextRan c (Ok t) out work) where
  pub answers : FormatAnswered c (answer_of (Ok t)) out q.list work
  answers = answered c (Ok t) (answer_of (Ok t)) out q.list work q.is refl

  no_refusal : (answer_of (outcome_of c)).refusal ≡ 0
  no_refusal = ap (λ (r : Outcome). (answer_of r).refusal) (sym q.is.outcome)

  -- what is tested after it decides
  pub passed_by : (v : Verdict) → tested (verdict_of c ∷ v ∷ []) ≡ v
  passed_by v = pass (verdict_of c) (v ∷ []) passed ∙ one_test v
    where
      go : (u : Verdict) → after c u ≡ Ok t → u ≡ Ok tt
      go (Ok _) e = refl
      go (Err r) e = absurd (let z : ◌≡◌ {A = ℕ} 0 1 = cc in omega arith)

      passed : verdict_of c ≡ Ok tt
      passed = unfold outcome_of in go (verdict_of c) (sym q.is.outcome)

  pub text_chars : decode (take t.length out) ≡ (formatted c).text
  text_chars = ap (λ (l : List ℕ). decode (take t.length l)) q.is.output ∙ (text_delivered c t out q.list work q.is).chars

  pub text_fits : t.length ≤ length out
  text_fits = text_within c t out q.list work q.is

  pub text_room : length out ≡ c.output
  unfolding output_of filled
  text_room =
      let r : Accepted c (outcome_of c) = accepted c no_refusal in
      let e : out ≡ text_of c ++ replicate (c.output - length (text_of c)) 0 = q.is.output ∙ rw r.outcome in
      omega (
        arith,
        ap length e,
        length-append (text_of c) (replicate (c.output - length (text_of c)) 0),
        length-replicate {A = ℕ} (c.output - length (text_of c)) 0,
        r.fits,
      )

  pub alike : Alike c.source (take t.length out)
  alike =
      let r = (accepted c no_refusal).admits.reads in
      record {
        long = omega (arith, r.short);
        well_source = test_wf c.source r.well;
        well_text = answers.well refl;
        struck = (answers.kept refl).struck;
      }
