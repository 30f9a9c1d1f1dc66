-- What a grouping call comes to, by its tests in their order.
--     refused_by_tests, no_text_law                a source that is refused
--     codes_ready, text_short, text_fits           the text of the codes in the output
--     refused_output; answered the answer
use Prim.Native.Nat.{ℕ, ◌*◌, ◌-◌, ◌≤◌, ◌<◌}
use native.Mathlib.Omega.{arith}
use mathlib.Core.List.{List, [], ◌∷◌, ◌++◌}
use mathlib.Core.Path.{◌≡◌, refl, sym, ap, ◌∙◌, subst}
use borrow.Author.Tests.{lt-ltb, le-ltb}
use lib.Dec.{ltb}
use lib.ListN.{length, take, replicate}
use lib.Seq.{take_at}
use Rattle.std.specs.Prelude.{true, false, Ok, Err, is_err, IsErr, IsErrAnd}
use Rattle.utf8.specs.Unicode.{size, decode, encode}
use Rattle.utf8.proofs.Decode.{test_wf}
use Rattle.buffer.specs.Buffer.{part, Appended, Finishes, Agree}
use Rattle.buffer.proofs.AgreeLaws.{agree_nil, appended_agree, finishes_text}
use Rattle.rules.specs.Refusals.{Verdict, number_of, tested, long_source, short_scratch, ill_formed}
use Rattle.rules.specs.Call.{filled}
use Rattle.rules.specs.declared.Refusal.{Refusal}
use Rattle.rules.proofs.Choose.{choose_true, choose_false, choose_case}
use Rattle.rules.proofs.RefusalLaws.{numbered, pass, stop, Readable, readable}
use Rattle.group_rules.specs.Expression.{Token, Reading, read, refused_at, reading}
use Rattle.group_rules.specs.Grouping.{text, grouping_of, grouping, tree_of, written}
use Rattle.group_rules.specs.Passes.{opened_text, closed_text}
use Rattle.group_rules.specs.Promises.{Groups, Longest}
use Rattle.group_rules.specs.Outcome.{GroupOutcome, group_each, group_scratch, group_tests, grouping_in, group_after, group_outcome, group_answer, grouped_text, group_output_for, group_output}
use Rattle.group_rules.specs.Answered.{GroupAnswered}
use Rattle.group_rules.specs.declared.Fault.{Fault}
use Rattle.group_rules.specs.declared.NoText.{NoText}
use Rattle.group_rules.specs.declared.GroupRefusal.{GroupRefusal}
use Rattle.group_rules.specs.declared.GroupAnswer.{GroupAnswer}
use Rattle.group_rules.proofs.ByteLaws.{reading_bytes}
use Rattle.group_rules.proofs.GroupLaws.{text_of, text_bytes, text_decode, groups}
use Rattle.group_rules.proofs.PlaceLaws.{longest}
use Rattle.group_open.specs.Back.{OpenedAll}
use Rattle.group_close.specs.Forth.{Ready, begins}
use Rattle.group_read.specs.Read.{Codes, CodedAs, SourceFits}
use Rattle.group.specs.Ran.{GroupWritten, GroupRan}

-- outcomes, with their type
abbrev outcome_refused : GroupRefusal → GroupOutcome
outcome_refused w = Err w

abbrev outcome_short : ℕ → GroupOutcome
outcome_short k = Err (GroupRefusal.Call (Refusal.OutputShort k))

abbrev outcome_of_length : ℕ → GroupOutcome
outcome_of_length k = Ok k

-- ---- a source that no test refuses

module _ (source : List ℕ) (scratch : ℕ) where
  abbrev source_tests : List Verdict
  source_tests = short_scratch (group_scratch source) scratch ∷ ill_formed source ∷ []

  refused_by_tests : (n : ℕ) (why : Refusal) → tested (group_tests source scratch) ≡ Err why → Err (GroupRefusal.Call why) ≡ group_outcome source n scratch
  unfolding group_outcome
  refused_by_tests n why e = rw e

  -- at the first test, or at the others
  pub refused_first : (n : ℕ) (why : Refusal) → Err why ≡ long_source source → Err (GroupRefusal.Call why) ≡ group_outcome source n scratch
  refused_first n why e = refused_by_tests n why (stop (long_source source) why source_tests (sym e))

  pub refused_then : (n : ℕ) (why : Refusal) → Ok tt ≡ long_source source → Err why ≡ tested source_tests → Err (GroupRefusal.Call why) ≡ group_outcome source n scratch
  refused_then n why e f = refused_by_tests n why (pass (long_source source) source_tests (sym e) ∙ sym f)

  module _ (short : Ok tt ≡ long_source source) (passed : Ok tt ≡ tested source_tests) where
    pub admitted : Readable group_each source scratch
    admitted = readable group_each source scratch (sym short) (sym passed)

    pub no_test : tested (group_tests source scratch) ≡ Ok tt
    no_test = pass (long_source source) source_tests (sym short) ∙ sym passed

    on_characters : {r : Reading} → reading source ≡ r → grouping (decode source) ≡ grouping_of r
    unfolding grouping
    on_characters e = ap grouping_of (sym (reading_bytes source (test_wf source admitted.well)) ∙ e)

    -- the outcome of a reading
    outcome_is : (n : ℕ) {r : Reading} → reading source ≡ r → group_outcome source n scratch ≡ grouping_in n (grouping_of r)
    unfolding group_outcome
    outcome_is n e = rw (no_test, on_characters e)

    pub no_text_law : (n : ℕ) (w : NoText) → reading source ≡ refused_at w.fault w.place → Err (GroupRefusal.NoText w) ≡ group_outcome source n scratch
    no_text_law n w e = sym (outcome_is n e ∙ unfold grouping_in grouping_of in refl)

    module _ (ts : List Token) (is : reading source ≡ read ts) (n : ℕ) where
      abbrev shown : List ℕ
      shown = encode (written (tree_of ts))

      pub too_long_law : n < length shown → Err (GroupRefusal.Call (Refusal.OutputShort (length shown))) ≡ group_outcome source n scratch
      too_long_law h = sym (outcome_is n is ∙ unfold grouping_in grouping_of in choose_true (ltb n (length shown)) _ _ (lt-ltb n (length shown) h))

      pub fits_law : length shown ≤ n → Ok (length shown) ≡ group_outcome source n scratch
      fits_law h = sym (outcome_is n is ∙ unfold grouping_in grouping_of in choose_false (ltb n (length shown)) _ _ (le-ltb n (length shown) h))

      pub output_law : length shown ≤ n → group_output source n scratch ≡ filled n shown
      unfolding group_output
      output_law h =
          ap (λ o. group_output_for o n (grouped_text (grouping (decode source)))) (sym (fits_law h))
          ∙ ap (λ g. filled n (grouped_text g)) (on_characters is) ∙ unfold grouped_text grouping_of in refl

-- ---- the codes of its tokens, and the text

pub source_fits : {source l : List ℕ} → Readable group_each source (length l) → SourceFits source l
source_fits p = record { fits = omega (arith, p.room); small = omega (arith, p.short) }

module _ {source l l₁ : List ℕ} {m : ℕ} (p : Readable group_each source (length l)) (c : CodedAs source l l₁ (Ok m)) where
  abbrev codes : Codes l₁ (reading source) (length source) m
  codes = c.is.yes m refl

  pub codes_room : (3 * m ≤ length l₁) × (4 * m ≤ length l₁) × (m ≤ 3145728)
  codes_room = (omega (arith, codes.short, p.room, c.size), omega (arith, codes.short, p.room, c.size), omega (arith, codes.short, p.short))

  pub codes_ready : {l₂ : List ℕ} {from : ℕ} → OpenedAll l₁ l₂ m from → Ready l₂ (3 * m) (begins from)
  codes_ready o =
      record {
        within = o.within;
        fits = omega (arith, codes_room.1, o.size);
        height = omega arith;
        counted = omega arith;
        small = omega (arith, codes_room.2);
      }

  module _ (l₂ out out₁ : List ℕ) (from len : ℕ) (o : OpenedAll l₁ l₂ m from) (w : Appended out out₁ 0 (closed_text (part l₂ from (3 * m))) len)
      (eo : length out₁ ≡ length out) (short : Ok tt ≡ long_source source)
      (passed : Ok tt ≡ tested (source_tests source (length l))) where
    the_text : closed_text (part l₂ from (3 * m)) ≡ encode (written (tree_of codes.tokens))
    the_text =
        ap closed_text (sym o.is) ∙ ap (λ x. closed_text (opened_text x)) codes.codes ∙ text_of source codes.tokens codes.is
        ∙ sym (text_bytes source codes.tokens codes.is)

    the_length : length (encode (written (tree_of codes.tokens))) ≡ len
    the_length = let a = w.next in let b = ap length the_text in omega arith

    pub text_short : (out₂ : List ℕ) → length out₁ < len
        → GroupWritten source (length out) (length l) (Err (GroupRefusal.Call (Refusal.OutputShort len))) out₂
    text_short out₂ h =
        record {
          outcome = ap (λ k. outcome_short k) (sym the_length)
              ∙ too_long_law source (length l) short passed codes.tokens codes.is (length out) (omega (arith, the_length));
          output = λ k e. absurd (no_count k e);
        }
      where
        no_count : (k : ℕ) → ◌≡◌ {A = GroupOutcome} (Err (GroupRefusal.Call (Refusal.OutputShort len))) (Ok k) → ⊥
        no_count k e = let z : ◌≡◌ {A = ℕ} 0 1 = cc in omega arith

    pub text_fits : (out₂ : List ℕ) → len ≤ length out₁ → Finishes out₁ out₂ len → GroupWritten source (length out) (length l) (Ok len) out₂
    unfolding filled
    text_fits out₂ h f =
        let fits : length (encode (written (tree_of codes.tokens))) ≤ length out = omega (arith, the_length) in
        record {
          outcome = ap (λ k. outcome_of_length k) (sym the_length) ∙ fits_law source (length l) short passed codes.tokens codes.is (length out) fits;
          output = λ k e. finishes_text f h (encode (written (tree_of codes.tokens))) the_length (subst (Agree out₁) the_text (appended_agree w [] refl (agree_nil out)))
              ∙ ap (λ r. encode (written (tree_of codes.tokens)) ++ replicate r 0) (same_room eo the_length)
              ∙ sym (output_law source (length l) short passed codes.tokens codes.is (length out) fits);
        }
      where
        same_room : {a b c d : ℕ} → a ≡ b → c ≡ d → a - d ≡ b - c
        same_room e f = omega arith

-- ---- refused: `?` gives what the conversion makes of a refusal, and the output is all zeros

pub refused_written : (source : List ℕ) (n m : ℕ) (r : GroupOutcome) (out : List ℕ) (why : GroupRefusal) → IsErr r × IsErrAnd r (λ e. e ≡ why)
    → Err why ≡ group_outcome source n m → GroupWritten source n m r out
refused_written source n m (Ok len) out why h e = absurd h.1
refused_written source n m (Err w) out why h e = record { outcome = ap outcome_refused h.1 ∙ e; output = λ len k. absurd (no_count len k) }
  where
    no_count : (len : ℕ) → ◌≡◌ {A = GroupOutcome} (Err w) (Ok len) → ⊥
    no_count len k = let z : ◌≡◌ {A = ℕ} 0 1 = cc in omega arith

pub refused_output : (source : List ℕ) (n m : ℕ) (r : GroupOutcome) → r ≡ group_outcome source n m → (why : GroupRefusal) → r ≡ Err why → group_output source n m ≡ replicate n 0
unfolding group_output
refused_output source n m r e why k = ap (λ o. group_output_for o n (grouped_text (grouping (decode source)))) (sym e ∙ k)

module _ {source : List ℕ} {n m : ℕ} {r : GroupOutcome} {out work : List ℕ} (w : GroupWritten source n m r out) (z : work ≡ replicate m 0) where
  pub ran_refused : {out₁ : List ℕ} → true ≡ is_err r → out₁ ≡ replicate n 0 → GroupRan source n m r out₁ work
  ran_refused {out₁} e o = record { outcome = w.outcome; output = go r refl e; cleared = z }
    where
      go : (s : GroupOutcome) → r ≡ s → true ≡ is_err s → out₁ ≡ group_output source n m
      go (Ok len) k f = absurd (let y : ◌≡◌ {A = ℕ} 0 1 = cc in omega arith)
      go (Err why) k f = o ∙ sym (refused_output source n m r w.outcome why k)

  pub ran_text : false ≡ is_err r → GroupRan source n m r out work
  ran_text e = record { outcome = w.outcome; output = go r refl e; cleared = z }
    where
      go : (s : GroupOutcome) → r ≡ s → false ≡ is_err s → out ≡ group_output source n m
      go (Ok len) k f = w.output len k
      go (Err why) k f = absurd (let y : ◌≡◌ {A = ℕ} 0 1 = cc in omega arith)

-- ---- the answer

-- no other refusal has the number 14
no_expression : (r : Refusal) → number_of r ≡ 14 → ⊥
no_expression Refusal.SourceTooLong e = omega arith
no_expression Refusal.BadOption e = omega arith
no_expression (Refusal.ScratchShort n) e = omega arith
no_expression (Refusal.NotUtf8 n) e = omega arith
no_expression (Refusal.OutputShort n) e = omega arith
no_expression Refusal.NoPlace e = omega arith
no_expression Refusal.PlacesUnordered e = omega arith
no_expression Refusal.KindsShort e = omega arith
no_expression Refusal.RulerTooWide e = omega arith
no_expression Refusal.StrengthsLength e = omega arith
no_expression Refusal.StrengthsBits e = omega arith
no_expression (Refusal.ListShort n) e = omega arith

-- what an outcome o of the source promises, in an output of n bytes
abbrev Promised : List ℕ → ℕ → GroupOutcome → Type 0
Promised source n o =
    ((group_answer o).refusal ≡ 0 → Groups (decode source) (decode (take (group_answer o).length (group_output_for o n (grouped_text (grouping (decode source)))))))
    × ((group_answer o).refusal ≡ 14 → Longest (decode source) (group_answer o).place)

module _ (source : List ℕ) (n : ℕ) where
  front : (t : List ℕ) → take (length t) (filled n t) ≡ t
  unfolding filled
  front t = take_at t (replicate (n - length t) 0) (length t) refl

  promised_text : (ts : List Token) → reading (decode source) ≡ read ts → Promised source n (grouping_in n (text (written (tree_of ts))))
  unfolding grouping_in grouping grouping_of grouped_text
  promised_text ts e =
      choose_case (Promised source n) (λ h. ((λ z. absurd (omega arith)), (λ z. absurd (omega arith))))
      (λ h. ((λ z. subst (Groups (decode source)) (sym shown) (groups (decode source) ts e)), (λ z. absurd (omega arith))))
    where
      shown : decode (take (size (written (tree_of ts))) (filled n (grouped_text (grouping (decode source))))) ≡ written (tree_of ts)
      shown =
          ap (λ r. decode (take (size (written (tree_of ts))) (filled n (grouped_text (grouping_of r))))) e
          ∙ ap decode (front (encode (written (tree_of ts)))) ∙ ap decode (text_bytes (decode source) ts e) ∙ text_decode (decode source) ts e

  promised_reading : (r : Reading) → reading (decode source) ≡ r → Promised source n (grouping_in n (grouping_of r))
  unfolding grouping_of
  promised_reading (read ts) e = promised_text ts e
  promised_reading (refused_at Fault.NoExpression p) e = unfold grouping_in in ((λ z. absurd (omega arith)), (λ z. longest (decode source) p e))
  promised_reading (refused_at Fault.TooDeep p) e = unfold grouping_in in ((λ z. absurd (omega arith)), (λ z. absurd (omega arith)))

  promised : (m : ℕ) → Promised source n (group_outcome source n m)
  unfolding group_outcome
  promised m = go (tested (group_tests source m))
    where
      go : (v : Verdict) → Promised source n (group_after v (grouping_in n (grouping (decode source))))
      go (Ok _) = unfold grouping in promised_reading (reading (decode source)) refl
      go (Err r) = ((λ z. absurd (numbered r z)), (λ z. absurd (no_expression r z)))

pub answered : {source : List ℕ} {n m : ℕ} {o : GroupOutcome} {r : GroupAnswer} {out work : List ℕ} → GroupRan source n m o out work → r ≡ group_answer o
    → GroupAnswered source n m r out work
unfolding group_output
answered {source} {n} {m} {o} {r} {out} {work} k e =
    let f : r ≡ group_answer (group_outcome source n m) = e ∙ ap group_answer k.outcome in
    record {
      answer = f;
      output = k.output;
      scratch = k.cleared;
      groups = λ z. subst (λ x. Groups (decode source) (decode (take x.length out))) (sym f)
          (subst (λ x. Groups (decode source) (decode (take (group_answer (group_outcome source n m)).length x))) (sym k.output)
          ((promised source n m).0 (ap (λ x. x.refusal) (sym f) ∙ z)));
      place = λ z. subst (λ x. Longest (decode source) x.place) (sym f) ((promised source n m).1 (ap (λ x. x.refusal) (sym f) ∙ z));
    }
