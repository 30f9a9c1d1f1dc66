-- From the call and the written refusal to what the program writes.
--     refusal_put                 the five pieces of a refusal
--     printed_refusal, too_long_law   a refusal written over zeros; when it is the one for longer input
--     called                      a call with the default options
use Prim.Native.Nat.{ℕ, zero, suc, ◌-◌, ◌^◌, ◌≤◌, ◌<◌}
use native.Mathlib.Omega.{arith}
use native.Mathlib.Nat.{not-suc-le-zero, le_of_suc-le-suc}
use mathlib.Core.Bool.{true, false, not}
use mathlib.Core.List.{List, [], ◌∷◌, ◌++◌}
use mathlib.Core.Path.{◌≡◌, sym, ap, ◌∙◌}
use borrow.Author.Tests.{lt-ltb, le-ltb}
use lib.Dec.{ltb}
use Rattle.std.specs.Prelude.{Ok, Err}
use lib.ListN.{length, replicate, length-append}
use Rattle.utf8.specs.Unicode.{well_formed, prefix_len}
use Rattle.utf8.proofs.Tests.{by_test}
use Rattle.buffer.specs.Buffer.{over, Wrote, Appended}
use Rattle.buffer.proofs.OverLaws.{over_nil}
use Rattle.buffer.proofs.WriteLaws.{appended_append}
use Rattle.decimal.specs.Decimal.{digits, DecimalPut}
use Rattle.decimal.proofs.DigitLaws.{digits_short}
use Rattle.rules.specs.Basics.{choose, codes}
use Rattle.rules.specs.Options.{defaults, Options, max_ruler}
use Rattle.rules.specs.Refusals.{Verdict, max_source, scratch_needed, number_of, place_of, tested, refuse_if, wrong_length, bits_set, long_source, bad_option, wide_ruler, short_scratch, ill_formed, short_output}
use Rattle.rules.specs.Strengths.{built_in, fields_of, last_bits}
use Rattle.rules.specs.Choices.{valid_options, options_of}
use Rattle.rules.specs.Call.{Call, Outcome, formatted, text_of, format_scratch, verdict_of, outcome_after, outcome_of, answer_of, filled, output_of}
use Rattle.rules.specs.declared.Refusal.{Refusal}
use Rattle.rules.specs.declared.Formatted.{Formatted}
use Rattle.rules.specs.declared.Answer.{Answer}
use Rattle.rules.proofs.RefusalLaws.{numbered, test_on, test_off, pass, stop, one_test}
use Rattle.rules.specs.Assembly.{default_text}
use Rattle.call.specs.Ran.{Ran}
use Rattle.wsfmt_run.specs.Program.{max_input, max_text, refusal, written, Printed}
use Rattle.wsfmt_run.specs.Steps.{Called}

-- ---- a refusal is written

module _ (number place : ℕ) (h : number < 2 ^ 64) (k : place < 2 ^ 64) where
  refusal_short : length (refusal number place) ≤ 53
  unfolding refusal
  refusal_short =
      omega (
        arith,
        digits_short number h,
        digits_short place k,
        length-append (codes "refused ") (digits number),
        length-append (codes "refused " ++ digits number) (codes " at "),
        length-append (codes "refused " ++ digits number ++ codes " at ") (digits place),
        length-append (codes "refused " ++ digits number ++ codes " at " ++ digits place) (codes "\n"),
      )

pub refusal_put : (number place : ℕ) {x a b c d e : List ℕ} {i j k l m : ℕ} → Appended x a 0 (codes "refused ") i → DecimalPut a b i number j
    → Appended b c j (codes " at ") k → DecimalPut c d k place l → Appended d e l (codes "\n") m → Wrote x e (refusal number place) m
unfolding refusal
refusal_put number place {x} {e = e} {m = m} p q r s t =
    let w : Appended x e 0 (refusal number place) m = appended_append (appended_append (appended_append (appended_append p q.appended) r) s.appended) t in
    record { size = omega (arith, w.next); is = w.is }

-- what is written fits
fits_in : (n : ℕ) (out w : List ℕ) → out ≡ filled n w → length w ≤ length out
unfolding filled
fits_in n out w e = omega (arith, ap length e, length-append w (replicate (n - length w) 0))

-- over zeros
over_zeros : (n : ℕ) (l : List ℕ) → length l ≤ n → over (replicate n 0) l ≡ filled n l
unfolding over filled
over_zeros n [] h =
    let e : n ≡ n - 0 = omega arith in
    over_nil (replicate n 0) ∙ ap (λ (k : ℕ). replicate k 0) e
over_zeros zero (a ∷ l) h = absurd (not-suc-le-zero h)
over_zeros (suc n) (a ∷ l) h =
    let e : suc n - suc (length l) ≡ n - length l = omega arith in
    rw e (ap (λ (t : List ℕ). a ∷ t) (over_zeros n l (le_of_suc-le-suc h)))

pub printed_refusal : (source x y : List ℕ) (number place r n : ℕ) → x ≡ replicate n 0 → Wrote x y (refusal number place) r
    → written source ≡ refusal number place → n ≡ max_text → number < 2 ^ 64 → place < 2 ^ 64 → Printed source y r
printed_refusal source x y number place r n z w e size h k =
    let s : length (refusal number place) ≤ n = omega (arith, refusal_short number place h k) in
    let p : over x (refusal number place) ≡ filled n (refusal number place) = rw z (over_zeros n (refusal number place) s) in
    let q : filled n (refusal number place) ≡ filled max_text (written source) = rw (size, e) in
    let i : y ≡ filled max_text (written source) = w.is ∙ p ∙ q in
    let j : r ≡ length (written source) = w.size ∙ sym (ap length e) in
    record { size = j; fits = omega (arith, fits_in max_text y (written source) i); is = i }

pub too_long_law : (source : List ℕ) → max_input < length source → written source ≡ refusal 1 max_input
unfolding written choose
too_long_law source h = rw (lt-ltb max_input (length source) h)

-- ---- the call

-- a call with the default options, whose scratch is enough
module _
    (c : Call) (r : Outcome) (out list work : List ℕ) (f : Ran c r out list work) (o : options_of c.choices ≡ defaults)
    (v : valid_options c.choices ≡ true) (t : c.choices.strengths ≡ built_in) (short : length c.source ≤ max_input)
    (room : scratch_needed format_scratch c.source ≤ c.scratch) (size : c.output ≡ max_text)
  where
    abbrev source : List ℕ
    source = c.source

    text_is : text_of c ≡ default_text source
    unfolding text_of formatted default_text
    text_is = rw o

    ruler_none : c.choices.numbers.ruler_tab ≡ 0
    unfolding options_of
    ruler_none = ap (λ (p : Options). p.ruler_tab) o

    -- the tests: 12, 13, 1, 2, 11 and 3 let the call pass, 4 and 5 are left
    table_length_law : wrong_length c.choices.strengths ≡ Ok tt
    unfolding choose
    table_length_law = rw t

    table_bits : bits_set c.choices.strengths ≡ Ok tt
    unfolding last_bits fields_of choose
    table_bits = rw t

    tests_left : verdict_of c ≡ tested (ill_formed source ∷ short_output (length (text_of c)) c.output ∷ [])
    unfolding verdict_of
    tests_left =
        pass _ _ table_length_law ∙ pass _ _ table_bits
        ∙ pass _ _ (test_off _ _ (le-ltb max_source (length source) (omega arith)))
        ∙ pass _ _ (test_off (not (valid_options c.choices)) _ (rw v))
        ∙ pass _ _ (test_off (ltb max_ruler c.choices.numbers.ruler_tab) _ (rw ruler_none))
        ∙ pass _ _ (test_off _ _ (le-ltb c.scratch (scratch_needed format_scratch source) room))

    not_utf8 : well_formed source ≡ false → verdict_of c ≡ Err (Refusal.NotUtf8 (prefix_len source))
    not_utf8 t = tests_left ∙ stop _ _ _ (test_on (not (well_formed source)) _ (rw t))

    last_test : well_formed source ≡ true → verdict_of c ≡ short_output (length (default_text source)) max_text
    last_test t = tests_left ∙ pass _ _ (test_off (not (well_formed source)) _ (rw t)) ∙ one_test _ ∙ rw (text_is, size)

    outcome_is : (u : Verdict) → verdict_of c ≡ u
        → outcome_of c ≡ outcome_after u (length (default_text source)) (formatted c)
    unfolding outcome_of
    outcome_is u e = rw (e, text_is)

    written_is : written source ≡ choose (not (well_formed source)) (refusal 4 (prefix_len source))
        (choose (ltb max_text (length (default_text source))) (refusal 5 (length (default_text source))) (default_text source))
    unfolding written choose
    written_is = rw (le-ltb max_input (length source) short)

    called_refused : (why : Refusal) → outcome_of c ≡ Err why → written source ≡ refusal (number_of why) (place_of why) → Called source out c.output r
    unfolding output_of
    called_refused why e w =
        record {
          accepted = λ t k. absurd (no_text t (sym k ∙ f.outcome ∙ e));
          refused = λ q k. record { told = w ∙ ap (λ (x : Refusal). refusal (number_of x) (place_of x)) (same q (sym k ∙ f.outcome ∙ e)); room = size; zeros = f.output ∙ rw e };
        }
      where
        no_text : (t : Formatted) → ◌≡◌ {A = Outcome} (Ok t) (Err why) → ⊥
        no_text t k = let z : ◌≡◌ {A = ℕ} 0 1 = cc in omega arith

        same : (q : Refusal) → ◌≡◌ {A = Outcome} (Err q) (Err why) → why ≡ q
        same q k = cc

    called_text : (imports blanks brackets : ℕ)
        → outcome_of c ≡ Ok (record { length = length (default_text source); imports_split = imports; blank_names = blanks; open_brackets = brackets })
        → written source ≡ default_text source → Called source out c.output r
    unfolding output_of
    called_text imports blanks brackets e w =
        let g : out ≡ filled max_text (written source) = f.output ∙ rw (e, text_is, size, w) in
        record {
          accepted = λ t k.
              let l : t.length ≡ length (written source) = ap (λ (x : Formatted). x.length) (same t (sym k ∙ f.outcome ∙ e)) ∙ sym (ap length w) in
              record { size = l; fits = omega (arith, fits_in max_text out (written source) g); is = g };
          refused = λ why k. absurd (no_refusal why (sym k ∙ f.outcome ∙ e));
        }
      where
        given : Formatted
        given = record { length = length (default_text source); imports_split = imports; blank_names = blanks; open_brackets = brackets }

        same : (t : Formatted) → ◌≡◌ {A = Outcome} (Ok t) (Ok given) → t ≡ given
        same t k = cc

        no_refusal : (why : Refusal) → ◌≡◌ {A = Outcome} (Err why) (Ok given) → ⊥
        no_refusal why k = let z : ◌≡◌ {A = ℕ} 0 1 = cc in omega arith

    pub called : Called source out c.output r
    unfolding choose
    called =
        by_test (well_formed source)
        (λ t. by_test (ltb max_text (length (default_text source)))
        (λ u. called_refused (Refusal.OutputShort (length (default_text source))) (outcome_is _ (last_test t ∙ test_on _ _ u)) (written_is ∙ rw (t, u)))
        (λ u. called_text (formatted c).imports_split (formatted c).blank_names (length (formatted c).open_brackets) (outcome_is _ (last_test t ∙ test_off _ _ u)) (written_is ∙ rw (t, u))))
        (λ t. called_refused (Refusal.NotUtf8 (prefix_len source)) (outcome_is _ (not_utf8 t)) (written_is ∙ rw t))
