-- A case beside its answer, and the run over the whole list.
--     refused, told                     what `agrees` gives, from what the call gives
--     step_comment, step_cut, step_agreed, step_differed
--     Replaying                         the loop of `replay`
use Prim.Native.Nat.{ℕ, zero, suc, ◌+◌, ◌-◌, ◌<◌, ◌≤◌}
use native.Mathlib.Omega.{arith}
use mathlib.Core.Bool.{Bool, true, false}
use mathlib.Core.List.{List}
use mathlib.Core.Path.{◌≡◌, refl, sym, ◌∙◌}
use borrow.Author.Tests.{lt-ltb, le-ltb, le-leb, lt-leb, eq-eqb, ne_eqb}
use lib.ListN.{length, get_or, take}
use Rattle.utf8.proofs.Tests.{by_test}
use Rattle.rules.proofs.Prefix.{same_eq, same_itself}
use Rattle.buffer.specs.Buffer.{part}
use Rattle.rules.specs.Basics.{choose, same}
use Rattle.std.specs.Prelude.{Ok, Err}
use Rattle.rules.specs.Refusals.{number_of}
use Rattle.rules.specs.declared.Refusal.{Refusal}
use Rattle.rules.specs.declared.Formatted.{Formatted}
use Rattle.rules.proofs.RefusalLaws.{numbered}
use Rattle.call.specs.Ran.{Ran}
use Rattle.call.proofs.CallLaws.{text_taken}
use Rattle.line_ends.specs.LineEnds.{LineEnd}
use Rattle.replay_run.specs.Stored.{CaseRead, answer_at, end_of}
use Rattle.replay_run.specs.Replay.{call_in, agrees, agreed, differed, case_size, counted, stepped, replayed, from_start, CountsFit, StepReady, Advanced}
use Rattle.replay_run.specs.declared.list.Case.{Case}
use Rattle.replay_run.specs.declared.Progress.{Progress}

-- ---- equal texts

-- a bool that is true just if a and b are equal
abbrev Tells : List ℕ → List ℕ → Bool → Type 0
Tells a b r = (r ≡ true → a ≡ b) × (a ≡ b → r ≡ true)

same_told : (a b : List ℕ) (r : Bool) → Tells a b r → r ≡ same a b
same_told a b true t = sym (rw (t.0 refl) (same_itself b))
same_told a b false t =
    by_test (same a b)
    (λ e. absurd (let y : false ≡ true = t.1 (same_eq a b e) in let z : ◌≡◌ {A = ℕ} 0 1 = cc in omega arith)) (λ e. sym e)

-- ---- a case beside its answer

module _ (list : List ℕ) (c : Case) (n m : ℕ) (out opened work : List ℕ) where
  pub refused : (why : Refusal) → Ran (call_in list c n m) (Err why) out opened work → false ≡ agrees list c n m
  unfolding agrees choose
  refused why w = rw (← w.outcome, ne_eqb (number_of why) 0 (numbered why))

  pub told : (t : Formatted) (r : Bool) → Ran (call_in list c n m) (Ok t) out opened work → Tells (take t.length out) (part list (answer_at c) (end_of c)) r
      → r ≡ agrees list c n m
  unfolding agrees choose
  told t r w k = same_told _ _ r k ∙ rw (text_taken _ t out opened work w, ← w.outcome)

-- ---- one step

module _ (list : List ℕ) (n m : ℕ) (p : Progress) (s : StepReady list p) where
  pub step_comment : (e : ℕ) → get_or list p.at 0 ≡ 35 → LineEnd list p.at e → Advanced list n m p (record { at = e + 1; sources = p.sources; differ = p.differ })
  unfolding stepped choose
  step_comment e h l =
      record {
        is = rw (eq-eqb (get_or list p.at 0) 35 h, ← l.is);
        on = omega (arith, l.from);
        counts = record { differ = s.counts.differ; sources = omega (arith, s.counts.sources, l.from); small = omega (arith, l.fits, s.limit) };
      }

  module _ (c : Case) (r : Progress) (h : get_or list p.at 0 ≡ 35 → ⊥) (k : CaseRead list p.at c) where
    abbrev next : ℕ
    next = c.from + case_size c + 1

    pub step_cut : length list - c.from ≤ case_size c → r ≡ differed p (length list) → Advanced list n m p r
    unfolding stepped counted choose
    step_cut l e =
        rw e
        (record {
          is = rw (ne_eqb (get_or list p.at 0) 35 h, ← k.is, le-leb (length list - c.from) (case_size c) l);
          on = s.here;
          counts = record { differ = omega (arith, s.counts.differ); sources = omega (arith, s.counts.sources, s.here); small = omega (arith, s.limit) };
        })

    module _ (l : case_size c < length list - c.from) (b : Bool) (t : b ≡ agrees list c n m) where
      pub step_agreed : b ≡ true → r ≡ agreed p next → Advanced list n m p r
      unfolding stepped counted choose
      step_agreed g e =
          rw e
          (record {
            is = rw (ne_eqb (get_or list p.at 0) 35 h, ← k.is, lt-leb (length list - c.from) (case_size c) l, ← t, g);
            on = omega (arith, k.from);
            counts = record { differ = omega (arith, s.counts.differ); sources = omega (arith, s.counts.sources, k.from); small = omega (arith, s.limit, k.fits) };
          })

      pub step_differed : b ≡ false → r ≡ differed p next → Advanced list n m p r
      unfolding stepped counted choose
      step_differed g e =
          rw e
          (record {
            is = rw (ne_eqb (get_or list p.at 0) 35 h, ← k.is, lt-leb (length list - c.from) (case_size c) l, ← t, g);
            on = omega (arith, k.from);
            counts = record { differ = omega (arith, s.counts.differ); sources = omega (arith, s.counts.sources, k.from); small = omega (arith, s.limit, k.fits) };
          })

-- ---- all steps

pub record Replaying (list out₀ scratch₀ out scratch : List ℕ) (p : Progress) : Type 0 where
  pub left : ℕ
  pub enough : length list ≤ left + p.at
  pub same : replayed (length list) list (length out₀) (length scratch₀) from_start ≡ replayed left list (length out₀) (length scratch₀) p
  pub counts : CountsFit p
  pub as_long : length out ≡ length out₀
  pub as_wide : length scratch ≡ length scratch₀

pub replaying_start : (list out scratch : List ℕ) → Replaying list out scratch out scratch from_start
replaying_start list out scratch =
    record {
      left = length list;
      enough = omega arith;
      same = refl;
      counts = record { differ = omega arith; sources = omega arith; small = omega arith };
      as_long = refl;
      as_wide = refl;
    }

module _ {list out₀ scratch₀ out scratch : List ℕ} {p : Progress} (r : Replaying list out₀ scratch₀ out scratch p) where
  pub replaying_ready : length list ≤ 4294967296 → p.at < length list → StepReady list p
  replaying_ready l h = record { limit = l; here = h; counts = r.counts }

  module _ (h : p.at < length list) (q : Progress) (s : Advanced list (length out) (length scratch) p q) where
    go : (k : ℕ) → length list ≤ k + p.at → (out' scratch' : List ℕ) → length out' ≡ length out → length scratch' ≡ length scratch
        → replayed (length list) list (length out₀) (length scratch₀) from_start ≡ replayed k list (length out₀) (length scratch₀) p → Replaying list out₀ scratch₀ out' scratch' q
    unfolding replayed choose
    go zero l out' scratch' eo es e = absurd (omega arith)
    go (suc k) l out' scratch' eo es e =
        record {
          left = k;
          enough = omega (arith, s.on);
          same = e ∙ rw (lt-ltb p.at (length list) h, s.is, r.as_long, r.as_wide);
          counts = s.counts;
          as_long = eo ∙ r.as_long;
          as_wide = es ∙ r.as_wide;
        }

    pub replaying_more : (out' scratch' : List ℕ) → length out' ≡ length out → length scratch' ≡ length scratch → Replaying list out₀ scratch₀ out' scratch' q
    replaying_more out' scratch' eo es = go r.left r.enough out' scratch' eo es r.same

  pub replaying_end : length list ≤ p.at → p ≡ replayed (length list) list (length out₀) (length scratch₀) from_start
  unfolding replayed choose
  replaying_end h = sym (r.same ∙ done r.left)
    where
      done : (k : ℕ) → replayed k list (length out₀) (length scratch₀) p ≡ p
      done zero = refl
      done (suc k) = rw (le-ltb p.at (length list) h)
