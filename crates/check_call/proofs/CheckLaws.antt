-- What a check comes to, by its tests in their order, and its answer.
use Prim.Native.Nat.{ℕ, zero, suc, ◌≤◌}
use native.Mathlib.Omega.{arith}
use mathlib.Core.Bool.{Bool, true, false, not, ◌||◌, true≢false}
use mathlib.Core.List.{List, [], ◌∷◌, ◌++◌}
use mathlib.Core.Path.{◌≡◌, refl, sym, ap, subst, ◌∙◌}
use lib.Dec.{eqb}
use lib.ListN.{length, drop, replicate}
use borrow.Author.Tests.{not-false}
use Rattle.utf8.specs.Unicode.{Scalars, encode, decode}
use Rattle.rules.specs.Basics.{choose, same}
use Rattle.rules.specs.Lines.{as_str, lines_of}
use Rattle.rules.specs.Options.{Options, max_ruler}
use Rattle.rules.specs.Strengths.{table_length}
use Rattle.rules.specs.Line.{start}
use Rattle.rules.specs.Assembly.{ending_of, drop_empty, joined, last_ending, finish, format_lines, format_with}
use Rattle.rules.specs.Choices.{Choices, valid_options, options_of, end_of_line_named}
use Rattle.std.specs.Prelude.{Result, Ok, Err, Option, Some, None, is_some, is_none, unwrap_or}
use Rattle.rules.specs.Refusals.{Verdict, wrong_length, bits_set, long_source, bad_option, and_then}
use Rattle.rules.specs.Call.{Call, formatted, text_of, format_tests}
use Rattle.rules.specs.declared.LineEnding.{LineEnding}
use Rattle.rules.specs.declared.OptionNumbers.{OptionNumbers}
use Rattle.rules.specs.declared.Refusal.{Refusal}
use Rattle.rules.specs.declared.Strengths.{Strengths}
use Rattle.rules.proofs.RefusalLaws.{numbered, option_good, head_passed, back_passed, then_passed, then_refused}
use Rattle.rules.proofs.CallLaws.{text_scalars}
use Rattle.rules.proofs.Choose.{choose_true, choose_false}
use Rattle.options.specs.Held.{options_in, held, held_named}
use Rattle.options.specs.declared.FormatOptions.{FormatOptions}
use Rattle.text.specs.Text.{Ended}
use Rattle.line.specs.Holds.{Uses}
use Rattle.lines.specs.Lines.{Passed, whole_text, answer_at, AllRead}
use Rattle.lines.specs.declared.LinesRead.{LinesRead}
use Rattle.call.specs.Tests.{tested_options}
use Rattle.call.specs.Styled.{style_of}
use Rattle.call.specs.Ran.{call_of}
use Rattle.call.proofs.CallLaws.{chosen_tests, passed, ruler_small, admits, options_held}
use Rattle.check_rules.specs.Check.{Checked, is_formatted}
use Rattle.check_call.specs.declared.CheckAnswer.{CheckAnswer}
use Rattle.check_rules.proofs.CheckLaws.{yes_then, yes_if, yes_read}
use Rattle.check_call.specs.declared.Finding.{Finding}
use Rattle.check_call.specs.CheckCall.{CheckOutcome, verdict_of, checked_options, finding_of, outcome_after, outcome_of, one_if, answer_of, Compares, CheckedWith, Found}
use Rattle.check_call.specs.CheckAnswered.{choices_of, CheckAnswered}
use Rattle.check_call.proofs.SameLaws.{same_chars}
use Rattle.utf8.proofs.Tests.{by_test, and_left, and_right, neither_left}

-- ---- the lines, and the finish

-- r is what `read_lines` gives, cell what it leaves
module _
    (source indent : List ℕ) (chosen : FormatOptions) (own : indent ≡ chosen.indent) (ending : LineEnding) (r : LinesRead) (cell scratch : List ℕ)
    (p : Passed source indent scratch)
    (e : ending ≡ ending_of chosen.end_of_line (decode source))
  where
    abbrev o : Options
    o = options_in chosen

    module _ (work : List ℕ)
        (w : AllRead source indent (style_of chosen ending) true (Some source) r cell work)
      where
        uses : Uses o indent (style_of chosen ending)
        uses = record { indents = sym own; breaks = refl; ruled = refl; strengths = refl }

        text_is : (format_with o (decode source)).text ≡ whole_text o (decode source) (as_str ending)
        unfolding format_with
        text_is = rw (← e)

        answer_is : Scalars (format_with o (decode source)).text → is_formatted o (decode source) ≡ answer_at o (decode source) (as_str ending) r.all r.st.nesting.line
        unfolding is_formatted
        answer_is s = rw (← e) (w.answer refl refl o uses (subst Scalars text_is s))

        -- the settled text differs
        pub found_early : r.all ≡ false → CheckedWith o source (record { yes = false; read = r.st.nesting.line })
        unfolding choose
        found_early h = record { is = λ s. sym (ap finding_of (answer_is s) ∙ rw h) }

        -- all lines were read, and the text was finished
        module _ (all : r.all ≡ true) (last : Bool) (k : (eol : List ℕ) → choose last eol [] ≡ last_ending chosen.insert_final_newline (decode source) eol)
            (cell₂ : List ℕ) (n : ℕ) (f : Ended (as_str ending) (choose last (as_str ending) []) source cell r.st.text cell₂ n) (b : Bool) (q : Compares source cell₂ n b) where
          abbrev lines : List (List ℕ)
          lines = (format_lines o (lines_of (decode source)) start).lines

          whole_is : whole_text o (decode source) (as_str ending) ≡ joined (as_str ending) (drop_empty lines) ++ choose last (as_str ending) []
          unfolding finish
          whole_is = rw (← k (as_str ending))

          yes_is : Scalars (format_with o (decode source)).text → b ≡ same (whole_text o (decode source) (as_str ending)) (decode source)
          yes_is s =
              let h = (w.done all).holds o uses in
              q.is (encode (joined (as_str ending) (drop_empty lines) ++ choose last (as_str ending) [])) (f.long lines h.text) (f.text lines h.text)
              ∙ ap (λ (x : List ℕ). same (encode x) source) (sym whole_is)
              ∙ same_chars source (whole_text o (decode source) (as_str ending)) p.well (subst Scalars text_is s)

          pub found_late : CheckedWith o source (record { yes = b; read = r.st.nesting.line })
          unfolding choose
          found_late = record { is = λ s. rw (yes_is s) (sym (ap finding_of (answer_is s) ∙ rw all)) }

-- ---- the options

-- what the options that were named come to: an ending that is kept is refused
abbrev pub refuse_kept : Result FormatOptions Refusal → Result FormatOptions Refusal
refuse_kept (Err why) = Err why
refuse_kept (Ok o) = choose (is_none o.end_of_line) (Err Refusal.BadOption) (Ok o)

-- of the numbers that name an ending, 0 alone names one that is kept
kept_number : (n : ℕ) (d : Option LineEnding) → is_some (end_of_line_named n) ≡ true → is_none (unwrap_or (end_of_line_named n) d) ≡ eqb n 0
kept_number zero d e = refl
kept_number (suc zero) d e = refl
kept_number (suc (suc zero)) d e = refl
kept_number (suc (suc (suc n))) d e = absurd cc

ending_named : (c : Choices) → valid_options c ≡ true → is_some (end_of_line_named c.numbers.line_ending) ≡ true
unfolding valid_options
ending_named c e = and_right _ _ (and_left _ _ e)

checked_is : (c : Choices) → refuse_kept (held_named c) ≡ checked_options c
unfolding choose options_of
checked_is c =
    by_test (valid_options c)
    (λ e. rw (e, kept_number c.numbers.line_ending None (ending_named c e)))
    (λ e. rw e)

-- kept tells whether the ending that was named is kept
pub kept_refused : (c : Choices) (o : FormatOptions) (kept : Bool) → held_named c ≡ Ok o → is_some o.end_of_line ≡ not kept → kept ≡ true → Err Refusal.BadOption ≡ checked_options c
kept_refused c o kept e i k = sym (ap refuse_kept e ∙ choose_true _ _ _ (ap not (i ∙ ap not k))) ∙ checked_is c

pub set_passed : (c : Choices) (o : FormatOptions) (kept : Bool) → held_named c ≡ Ok o → is_some o.end_of_line ≡ not kept → kept ≡ false → Ok o ≡ checked_options c
set_passed c o kept e i k = sym (ap refuse_kept e ∙ choose_false _ _ _ (ap not (i ∙ ap not k))) ∙ checked_is c

-- ---- the tests

abbrev found : Finding → CheckOutcome
found f = Ok f

-- t is what `options_of` gives, v what `test` gives
module _
    (source indent : List ℕ) (numbers : OptionNumbers) (table scratch : List ℕ) (s : Strengths) (t v : Result FormatOptions Refusal)
    (reads : length table ≡ table_length → s.table ≡ table)
    (named : t ≡ checked_options (choices_of indent numbers s.table))
    (tests : v ≡ tested_options table source t (length scratch))
  where
    abbrev c : Choices
    c = choices_of indent numbers table

    abbrev named_choices : Choices
    named_choices = choices_of indent numbers s.table

    abbrev bad : Bool
    bad = not (valid_options c) || eqb numbers.line_ending 0

    -- which numbers are valid doesn't depend on the table
    verdict_is : and_then (verdict_of c source (length scratch)) (λ _. Ok (held (options_of named_choices))) ≡ v
    unfolding verdict_of valid_options options_of
    verdict_is =
        sym (tests ∙ ap (λ (r : Result FormatOptions Refusal). tested_options table source r (length scratch)) named
        ∙ chosen_tests table source bad (held (options_of named_choices)) (length scratch))

    pub run_refused : (why : Refusal) → v ≡ Err why → Found c source (length scratch) (Err why)
    unfolding outcome_of
    run_refused why e = record { is = rw (then_refused (verdict_of c source (length scratch)) (held (options_of named_choices)) why (verdict_is ∙ e)) }

    module _ (o : FormatOptions) (e : v ≡ Ok o) where
      verdict_passed : verdict_of c source (length scratch) ≡ Ok tt
      verdict_passed = then_passed (verdict_of c source (length scratch)) (held (options_of named_choices)) o (verdict_is ∙ e)

      bad_not : bad ≡ false
      unfolding verdict_of
      bad_not =
          option_good bad
          (head_passed (bad_option bad) (drop 4 (format_tests table source bad numbers.ruler_tab (length scratch)))
          (back_passed (wrong_length table ∷ bits_set table ∷ long_source source ∷ [])
          (drop 3 (format_tests table source bad numbers.ruler_tab (length scratch)))
          verdict_passed))

      valid : valid_options c ≡ true
      valid = not-false (valid_options c) (neither_left (not (valid_options c)) (eqb numbers.line_ending 0) bad_not)

      named_plain : t ≡ held_named named_choices
      unfolding valid_options
      named_plain =
          named ∙ choose_false bad _ _ bad_not
          ∙ sym (choose_true (valid_options c) (Ok (held (options_of named_choices))) (Err Refusal.BadOption) valid)

      pub check_passed : Passed source o.indent scratch
      check_passed = passed source indent numbers table [] [] scratch s t v reads named_plain tests o e

      pub check_ruler : o.ruler_tab ≤ max_ruler
      check_ruler = ruler_small source indent numbers table [] [] scratch s t v reads named_plain tests o e

      options_same : options_of c ≡ options_in o
      unfolding options_of
      options_same = rw (options_held source indent numbers table [] [] scratch s t v reads named_plain tests o e)

      -- the text consists of scalar values: that of a call with enough room
      abbrev roomy : Call
      roomy = call_of source indent numbers table (length (text_of (call_of source indent numbers table 0 0 (length scratch)))) 0 (length scratch)

      text_whole : Scalars (format_with (options_of c) (decode source)).text
      unfolding formatted text_of
      text_whole =
          text_scalars roomy _
          (record { admits = admits source indent numbers table [] [] scratch s t v reads named_plain tests o e; fits = omega arith; outcome = refl })

      pub run_found : (f : Finding) → CheckedWith (options_in o) source f → Found c source (length scratch) (Ok f)
      unfolding outcome_of
      run_found f w =
          record {
            is = ap found (w.is (subst (λ (x : Options). Scalars (format_with x (decode source)).text) options_same text_whole)
                ∙ ap (λ (x : Options). finding_of (is_formatted x (decode source))) (sym options_same))
                ∙ rw verdict_passed;
          }

-- ---- the answer

one_yes : (b : Bool) → one_if b ≡ 1 → b ≡ true
unfolding choose
one_yes true h = refl
one_yes false h = absurd (omega arith)

one_no : (b : Bool) → one_if b ≡ 0 → b ≡ false
unfolding choose
one_no true h = absurd (omega arith)
one_no false h = refl

abbrev found_in : Choices → List ℕ → Checked
found_in c source = is_formatted (options_of c) (decode source)

pub answered : (c : Choices) (source : List ℕ) (room : ℕ) (x : CheckOutcome) (r : CheckAnswer) (work : List ℕ)
    → Found c source room x → work ≡ replicate room 0 → r ≡ answer_of x → CheckAnswered c source room r work
answered c source room x r work w z e =
    let i : r ≡ answer_of (outcome_of c source room) = e ∙ ap answer_of w.is in
    record {
      answer = i;
      scratch = z;
      yes = λ k h. yes_then (options_of c) (decode source) (yes_here k h i);
      no = λ k h t. true≢false (sym (yes_if (options_of c) (decode source) t) ∙ no_here k h i);
      all = λ k h. all_here k h i;
    }
  where
    accepted : (answer_of (outcome_of c source room)).refusal ≡ 0 → outcome_of c source room ≡ Ok (finding_of (found_in c source))
    accepted k = go (verdict_of c source room) (rw_outcome) k
      where
        rw_outcome : outcome_of c source room ≡ outcome_after (verdict_of c source room) (finding_of (found_in c source))
        rw_outcome = unfold outcome_of in refl

        go : (v : Verdict) → outcome_of c source room ≡ outcome_after v (finding_of (found_in c source)) → (answer_of (outcome_of c source room)).refusal ≡ 0
            → outcome_of c source room ≡ Ok (finding_of (found_in c source))
        go (Ok _) q k = q
        go (Err why) q k = absurd (numbered why (ap (λ (y : CheckOutcome). (answer_of y).refusal) (sym q) ∙ k))

    here : r.refusal ≡ 0 → r ≡ answer_of (outcome_of c source room) → r ≡ answer_of (Ok (finding_of (found_in c source)))
    here k i = i ∙ ap answer_of (accepted (ap (λ (a : CheckAnswer). a.refusal) (sym i) ∙ k))

    yes_here : r.refusal ≡ 0 → r.formatted ≡ 1 → r ≡ answer_of (outcome_of c source room) → (found_in c source).yes ≡ true
    yes_here k h i = one_yes (found_in c source).yes (ap (λ (a : CheckAnswer). a.formatted) (sym (here k i)) ∙ h)

    no_here : r.refusal ≡ 0 → r.formatted ≡ 0 → r ≡ answer_of (outcome_of c source room) → (found_in c source).yes ≡ false
    no_here k h i = one_no (found_in c source).yes (ap (λ (a : CheckAnswer). a.formatted) (sym (here k i)) ∙ h)

    all_here : r.refusal ≡ 0 → r.formatted ≡ 1 → r ≡ answer_of (outcome_of c source room) → r.lines_read ≡ length (lines_of (decode source))
    all_here k h i = ap (λ (a : CheckAnswer). a.lines_read) (here k i) ∙ yes_read (options_of c) (decode source) (yes_here k h i)
