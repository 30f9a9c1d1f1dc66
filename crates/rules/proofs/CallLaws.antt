-- Demand 3 for each accepted call, from bytes to bytes.
--     accepted          what an accepted call passed, and its outcome
--     text_scalars      its text consists of scalar values, so its bytes read back as its characters
--     delivered         the first bytes of the output are the text, which is well formed; demand 3 of the source's and
--                       the output's characters and of the answer's counts
use Prim.Native.Nat.{ℕ, ◌≤◌}
use native.Mathlib.Omega.{arith}
use mathlib.Core.Bool.{Bool, true, false, not, ◌&&◌}
use mathlib.Core.List.{List, [], ◌∷◌, ◌++◌}
use mathlib.Core.Path.{◌≡◌, refl, sym, ap, ◌∙◌, subst}
use lib.Dec.{T, leb, ltb}
use lib.ListN.{length, take}
use lib.Seq.{take-append_seam}
use borrow.Author.Tests.{ltb-true, ltb-false, eqb-true, not-false, le-leb, lt-leb, ne_eqb}
use Rattle.utf8.specs.Unicode.{is_scalar, Scalars, decode, WellFormed, is_white}
use Rattle.utf8.proofs.Tests.{by_test, and_right}
use Rattle.utf8.proofs.Table.{scalar_low}
use Rattle.utf8.proofs.Decode.{decode_encode, decode_scalars, wf_encode}
use Rattle.rules.specs.Basics.{is, cons_if, keep}
use Rattle.rules.specs.Demand3.{is_kept, strike, Kept}
use Rattle.rules.specs.Options.{all_blank, valid_indent, max_indent, max_ruler}
use Rattle.rules.specs.Choices.{Choices, valid_options, options_of}
use Rattle.std.specs.Prelude.{Ok, Err}
use Rattle.rules.specs.Refusals.{Verdict, scratch_needed, tested, wrong_length, bits_set, long_source, bad_option, wide_ruler, short_scratch, ill_formed, short_output}
use Rattle.rules.specs.Call.{Call, Outcome, formatted, text_of, format_scratch, format_tests, verdict_of, outcome_after, outcome_of, answer_of, filled, output_for, output_of}
use Rattle.rules.specs.declared.Answer.{Answer}
use Rattle.rules.proofs.RefusalLaws.{numbered, Readable, readable, option_good, ruler_fits, output_fits, head_passed, tail_passed, front_passed, back_passed}
use Rattle.rules.proofs.Demand3.{demand3}

-- ---- characters that are struck are scalar values

pub white_scalar : (c : ℕ) → is_white c ≡ true → T (is_scalar c)
unfolding is_white
white_scalar c h = by_test (ltb c 0xD800) (λ e. scalar_low c (ltb-true c 0xD800 e)) (λ e. high (ltb-false c 0xD800 e))
  where
    high : 0xD800 ≤ c → T (is_scalar c)
    high k =
        let z : is_white c ≡ false =
        simp (
          lt-leb c 0x0D (omega arith),
          lt-leb c 0x200A (omega arith),
          ne_eqb c 0x20 (omega arith),
          ne_eqb c 0x85 (omega arith),
          ne_eqb c 0xA0 (omega arith),
          ne_eqb c 0x1680 (omega arith),
          ne_eqb c 0x2028 (omega arith),
          ne_eqb c 0x2029 (omega arith),
          ne_eqb c 0x202F (omega arith),
          ne_eqb c 0x205F (omega arith),
          ne_eqb c 0x3000 (omega arith),
          le-leb 0x09 c (omega arith),
          le-leb 0x2000 c (omega arith),
        )
        in
        let y : ◌≡◌ {A = ℕ} 0 1 = cc in absurd (omega arith)

pub keep_scalars : (p : ℕ → Bool) (l : List ℕ) → Scalars l → Scalars (keep p l)
unfolding keep
keep_scalars p [] s = tt
keep_scalars p (c ∷ l) s = go (p c) (keep_scalars p l s.1)
  where
    go : (t : Bool) → Scalars (keep p l) → Scalars (cons_if t c (keep p l))
    go true r = (s.0, r)
    go false r = r

pub scalars_keep : (p : ℕ → Bool) → ((c : ℕ) → p c ≡ false → T (is_scalar c)) → (l : List ℕ) → Scalars (keep p l) → Scalars l
unfolding keep
scalars_keep p h [] s = tt
scalars_keep p h (c ∷ l) s = go (p c) refl s (scalars_keep p h l)
  where
    go : (t : Bool) → p c ≡ t → Scalars (cons_if t c (keep p l)) → (Scalars (keep p l) → Scalars l) → Scalars (c ∷ l)
    go true e r f = (r.0, f r.1)
    go false e r f = (h c e, f r)

struck_scalar : (c : ℕ) → is_kept c ≡ false → T (is_scalar c)
struck_scalar c h = by_test (is_white c) (white_scalar c) (λ e. comma (is "," c) refl (rw e at h))
  where
    comma : (t : Bool) → is "," c ≡ t → not t ≡ false → T (is_scalar c)
    comma t e k = rw (eqb-true c 44 (e ∙ not-false t k)) (scalar_low 44 (omega arith))

strike_scalars : (s t : List ℕ) → strike t ≡ strike s → Scalars s → Scalars t
unfolding strike
strike_scalars s t e h = scalars_keep is_kept struck_scalar t (subst Scalars (sym e) (keep_scalars is_kept s h))

-- ---- an accepted call

-- what the tests before the text's let pass
pub record Admitted (source : List ℕ) (choices : Choices) (scratch : ℕ) : Type 0 where
  pub valid : valid_options choices ≡ true
  pub ruler : choices.numbers.ruler_tab ≤ max_ruler
  pub reads : Readable format_scratch source scratch

pub admitted : (source : List ℕ) (choices : Choices) (scratch : ℕ)
    → tested (format_tests choices.strengths source (not (valid_options choices)) choices.numbers.ruler_tab scratch) ≡ Ok tt
    → Admitted source choices scratch
admitted source choices scratch e =
    let t = back_passed table_tests (long ∷ option ∷ ruled ∷ bytes) e in
    let r = tail_passed long (option ∷ ruled ∷ bytes) t in
    let s = tail_passed option (ruled ∷ bytes) r in
    record {
      valid = not-false (valid_options choices) (option_good _ (head_passed option (ruled ∷ bytes) r));
      ruler = ruler_fits _ (head_passed ruled bytes s);
      reads = readable format_scratch source scratch (head_passed long (option ∷ ruled ∷ bytes) t) (tail_passed ruled bytes s);
    }
  where
    table_tests : List Verdict
    table_tests = wrong_length choices.strengths ∷ bits_set choices.strengths ∷ []

    long : Verdict
    long = long_source source

    option : Verdict
    option = bad_option (not (valid_options choices))

    ruled : Verdict
    ruled = wide_ruler choices.numbers.ruler_tab

    bytes : List Verdict
    bytes = short_scratch (scratch_needed format_scratch source) scratch ∷ ill_formed source ∷ []

-- r is the outcome of c, and no refusal
pub record Accepted (c : Call) (r : Outcome) : Type 0 where
  pub admits : Admitted c.source c.choices c.scratch
  pub fits : length (text_of c) ≤ c.output
  pub outcome : r ≡ Ok (record {
    length = length (text_of c);
    imports_split = (formatted c).imports_split;
    blank_names = (formatted c).blank_names;
    open_brackets = length (formatted c).open_brackets;
  })

pub accepted : (c : Call) → (answer_of (outcome_of c)).refusal ≡ 0 → Accepted c (outcome_of c)
unfolding outcome_of verdict_of
accepted c = go (verdict_of c) refl
  where
    tests : List Verdict
    tests =
        format_tests c.choices.strengths c.source (not (valid_options c.choices)) c.choices.numbers.ruler_tab c.scratch

    last : List Verdict
    last = short_output (length (text_of c)) c.output ∷ []

    given : Verdict → Outcome
    given v = outcome_after v (length (text_of c)) (formatted c)

    go : (v : Verdict) → tested (tests ++ last) ≡ v → (answer_of (given v)).refusal ≡ 0 → Accepted c (given v)
    go (Ok _) e z =
        record {
          admits = admitted c.source c.choices c.scratch (front_passed tests last e);
          fits = output_fits (length (text_of c)) c.output (head_passed (short_output (length (text_of c)) c.output) [] (back_passed tests last e));
          outcome = refl;
        }
    go (Err r) e z = absurd (numbered r z)

first_of_four : (a b c d : Bool) → (a && b && c && d) ≡ true → a ≡ true
first_of_four true b c d h = refl
first_of_four false b c d h = h

pub indent_valid : (c : Choices) → valid_options c ≡ true → valid_indent c.indent ≡ true
unfolding valid_options
indent_valid c e = first_of_four (valid_indent c.indent) _ _ _ e

module _ (c : Call) (r : Outcome) (a : Accepted c r) where
  pub indent_blank : all_blank c.choices.indent ≡ true
  unfolding valid_indent
  indent_blank =
      and_right (leb (length c.choices.indent) max_indent) (all_blank c.choices.indent)
      (indent_valid c.choices a.admits.valid)

  -- demand 3 of the text
  pub text_kept :
      Kept (options_of c.choices).print_width (decode c.source) (formatted c).text (formatted c).imports_split
      (formatted c).blank_names
  unfolding formatted options_of
  text_kept = demand3 (options_of c.choices) indent_blank (decode c.source)

  pub text_scalars : Scalars (formatted c).text
  text_scalars = strike_scalars (decode c.source) (formatted c).text text_kept.struck (decode_scalars c.source)

  pub text_back : decode (text_of c) ≡ (formatted c).text
  unfolding text_of
  text_back = decode_encode (formatted c).text text_scalars

  pub text_well : WellFormed (text_of c)
  unfolding text_of
  text_well = wf_encode (formatted c).text text_scalars

-- ---- what an accepted call delivers

pub record Delivered (c : Call) (len imports blanks : ℕ) : Type 0 where
  pub long : len ≡ length (text_of c)
  pub bytes : take len (output_of c) ≡ text_of c
  pub chars : decode (take len (output_of c)) ≡ (formatted c).text
  pub well : WellFormed (take len (output_of c))
  pub kept : Kept (options_of c.choices).print_width (decode c.source) (decode (take len (output_of c))) imports blanks

written : (c : Call) (r : Outcome) → Accepted c r → take (answer_of r).length (output_for r c.output (text_of c)) ≡ text_of c
unfolding filled
written c r a = rw a.outcome (take-append_seam (text_of c) _)

pub delivered : (c : Call) (r : Outcome) → outcome_of c ≡ r → (answer_of r).refusal ≡ 0
    → Delivered c (answer_of r).length (answer_of r).imports_split (answer_of r).blank_names
unfolding output_of
delivered c r e z =
    let a : Accepted c r = subst (λ (q : Outcome). Accepted c q) e (accepted c (ap (λ (q : Outcome). (answer_of q).refusal) e ∙ z)) in
    let b : take (answer_of r).length (output_of c) ≡ text_of c = rw e (written c r a) in
    let t : decode (take (answer_of r).length (output_of c)) ≡ (formatted c).text = ap decode b ∙ text_back c r a in
    record {
      long = ap (λ (q : Outcome). (answer_of q).length) a.outcome;
      bytes = b;
      chars = t;
      well = subst WellFormed (sym b) (text_well c r a);
      kept = rw (t, a.outcome) (text_kept c r a);
    }

-- the same of an answer and an output that are those of the call
module _
    (c : Call) (a : Answer) (out : List ℕ) (e : a ≡ answer_of (outcome_of c)) (f : out ≡ output_of c) (z : a.refusal ≡ 0)
  where
    abbrev given : Answer
    given = answer_of (outcome_of c)

    delivers : Delivered c given.length given.imports_split given.blank_names
    delivers = delivered c (outcome_of c) refl (sym (ap (λ (b : Answer). b.refusal) e) ∙ z)

    pub answer_well : WellFormed (take a.length out)
    answer_well = rw (f, e) delivers.well

    pub answer_kept :
        Kept (options_of c.choices).print_width (decode c.source) (decode (take a.length out)) a.imports_split
        a.blank_names
    answer_kept = rw (f, e) delivers.kept
