-- The finish, and what a call comes to, by its tests in their order.
--     ending_made, last_always, last_source                 the ending, and the last one
--     text_short, text_fits                                 the text in the output
--     ran_refused, ran_formatted                            the outcome of a call; answered the answer
--     text_delivered, text_taken, text_within               the text that a call gave
use Prim.Native.Nat.{ℕ, ◌-◌, ◌≤◌, ◌<◌}
use native.Mathlib.Omega.{arith}
use mathlib.Core.Bool.{Bool, true, false, not, ◌&&◌}
use mathlib.Core.List.{List, [], ◌∷◌, ◌++◌}
use mathlib.Core.Path.{◌≡◌, refl, sym, ap, ◌∙◌}
use borrow.Author.Tests.{lt-ltb, le-ltb, leb-true, eqb-true}
use lib.Dec.{leb, eqb}
use lib.ListN.{length, take, drop, replicate, length-take}
use lib.Seq.{take-nil}
use Rattle.utf8.specs.Unicode.{size, decode, WellFormed}
use Rattle.utf8.proofs.Decode.{test_wf}
use Rattle.utf8.proofs.Tests.{and_left, and_right}
use Rattle.rules.specs.Basics.{choose}
use Rattle.rules.specs.Lines.{as_str, lines_of, dominant_in, ends_in_lf}
use Rattle.rules.specs.Options.{Options, all_blank, valid_indent, max_indent, max_ruler, EndOfLine}
use Rattle.rules.specs.Brackets.{open_lines}
use Rattle.rules.specs.Line.{Formatter, start}
use Rattle.rules.specs.Assembly.{ending_of, drop_empty, joined, last_ending, finish, format_lines, format_with}
use Rattle.std.specs.Prelude.{Some, None, Result, Ok, Err}
use Rattle.std.specs.Option.{MatchOption}
use Rattle.rules.specs.Refusals.{Verdict, scratch_needed, refuse_if, tested, and_then, long_source, wide_ruler, short_scratch, ill_formed, short_output, wrong_length, bits_set, bad_option}
use Rattle.rules.specs.Strengths.{table_length}
use Rattle.rules.specs.Choices.{Choices, valid_options, options_of}
use Rattle.rules.specs.Call.{Call, Outcome, formatted, text_of, format_scratch, format_tests, verdict_of, outcome_after, outcome_of, answer_of, filled, listed, output_of, opened_of}
use Rattle.rules.specs.declared.LineEnding.{LineEnding}
use Rattle.rules.specs.declared.FinalNewline.{FinalNewline}
use Rattle.rules.specs.declared.OptionNumbers.{OptionNumbers}
use Rattle.rules.specs.declared.Refusal.{Refusal}
use Rattle.rules.specs.declared.Formatted.{Formatted as Counted}
use Rattle.rules.specs.declared.Strengths.{Strengths}
use Rattle.rules.specs.declared.Answer.{Answer}
use Rattle.rules.proofs.StartsBytes.{on_decode}
use Rattle.rules.proofs.LinesBytes.{dominant_encode, ends_lf_encode}
use Rattle.rules.proofs.RefusalLaws.{test_on, one_test, goes_on_law, ends, head_passed, then_passed, then_value, then_refused}
use Rattle.rules.proofs.CallLaws.{Admitted, admitted, indent_valid, Delivered, delivered, answer_well, answer_kept}
use Rattle.quoted.proofs.C22.{c22_call}
use Rattle.options.specs.Held.{options_in, held_named, held}
use Rattle.options.specs.declared.FormatOptions.{FormatOptions}
use Rattle.text.specs.Text.{Finished}
use Rattle.brackets.specs.Stack.{stacked}
use Rattle.line.specs.Holds.{Record, Holds, ValidIndent}
use Rattle.line.specs.Scratch.{stack_at}
use Rattle.line.specs.declared.style.Style.{Style}
use Rattle.lines.specs.Lines.{Passed, LinesDone, AllRead}
use Rattle.lines.specs.declared.LinesRead.{LinesRead}
use Rattle.call.specs.Tests.{tested_options}
use Rattle.call.specs.Formatted.{outcome_in, Told, Fitted, RefusedCall}
use Rattle.call.specs.Styled.{style_of}
use Rattle.call.specs.Ran.{call_of, Ran}
use Rattle.call.specs.FormatAnswered.{FormatAnswered}

-- ---- the ending of the lines, and whether one more follows

module _ (source : List ℕ) (w : WellFormed source) where
  pub ending_made : (k : EndOfLine) (r : LineEnding) {P : Type 0} → MatchOption k P (λ v. r ≡ v) → (P → r ≡ dominant_in source) → r ≡ ending_of k (decode source)
  unfolding ending_of
  ending_made None r m f = f m ∙ on_decode dominant_in dominant_in dominant_encode source w
  ending_made (Some e) r m f = m

  pub last_source : (k : FinalNewline) (r : Bool) → k ≡ FinalNewline.AsSource → r ≡ ends_in_lf source → (eol : List ℕ) → choose r eol [] ≡ last_ending k (decode source) eol
  unfolding last_ending
  last_source k r e h eol = rw e (ap (λ (b : Bool). choose b eol []) (h ∙ on_decode ends_in_lf ends_in_lf ends_lf_encode source w))

pub last_always : (source : List ℕ) (k : FinalNewline) → k ≡ FinalNewline.Always → (eol : List ℕ) → choose true eol [] ≡ last_ending k source eol
unfolding last_ending choose
last_always source k e eol = rw e

pub last_never : (source : List ℕ) (k : FinalNewline) → k ≡ FinalNewline.Never → (eol : List ℕ) → choose false eol [] ≡ last_ending k source eol
unfolding last_ending choose
last_never source k e eol = rw e

-- ---- the text in the output

-- all lines of the source, formatted
abbrev formatted_lines : Options → List ℕ → Formatter
formatted_lines o source = format_lines o (lines_of (decode source)) start

-- no bracket is open
pub none_told : (scratch : List ℕ) {k m r : ℕ} {list work : List ℕ} → Told (open_lines (stacked scratch 0 0)) k m r list work → list ≡ replicate k 0
unfolding stacked open_lines listed filled
none_told scratch {k = k} w = let e : k - 0 ≡ k = omega arith in w.listed.holds ∙ rw (take-nil k, e)

pub refused_call : (why : Refusal) (scratch : List ℕ) (n k m : ℕ) {r : ℕ} {out list work : List ℕ} → out ≡ replicate n 0
    → Told (open_lines (stacked scratch 0 0)) k m r list work → RefusedCall why n k m (Err why) out list work
refused_call why scratch n k m z w = record { outcome = refl; zeros = z; none = none_told scratch w; cleared = w.cleared }

-- without a comparison all lines are read
pub all_done : {source indent : List ℕ} {style : Style} {checks : Bool} {r : LinesRead} {out scratch : List ℕ}
    → AllRead source indent style checks None r out scratch → LinesDone source indent style [] r.st out scratch
all_done w = w.done (w.all refl)

-- out₁ is what `read_lines` leaves of the output, out₂ what `finish_text` leaves of it; list₁ and scratch₂ are what
-- `list_open` leaves
module _
    (source indent : List ℕ) (chosen : FormatOptions) (own : indent ≡ chosen.indent) (ending : LineEnding) (last : Bool) (st : Record)
    (out₀ list₀ scratch₀ out₁ scratch₁ out₂ list₁ scratch₂ : List ℕ) (n r : ℕ)
    (e : ending ≡ ending_of chosen.end_of_line (decode source))
    (l : LinesDone source indent (style_of chosen ending) [] st out₁ scratch₁)
    (k : (eol : List ℕ) → choose last eol [] ≡ last_ending chosen.insert_final_newline (decode source) eol)
    (w : Finished (as_str ending) (choose last (as_str ending) []) out₁ st.text out₂ n)
    (eo : length out₁ ≡ length out₀) (es : length scratch₁ ≡ length scratch₀) (ef : length out₂ ≡ length out₁)
  where
    abbrev o : Options
    o = options_in chosen

    held_here : Holds [] (as_str ending) (length source) (formatted_lines o source) st out₁ scratch₁
    held_here = l.holds o (record { indents = sym own; breaks = refl; ruled = refl; strengths = refl })

    text_is : (format_with o (decode source)).text ≡ joined (as_str ending) (drop_empty (formatted_lines o source).lines) ++ choose last (as_str ending) []
    unfolding format_with finish
    text_is = rw (← e, ← k (as_str ending))

    imports_is : (format_with o (decode source)).imports_split ≡ st.imports
    unfolding format_with finish
    imports_is = sym held_here.imports

    blanks_is : (format_with o (decode source)).blank_names ≡ st.blanks
    unfolding format_with finish
    blanks_is = sym held_here.blanks

    abbrev open_now : List ℕ
    open_now = open_lines (stacked scratch₁ (stack_at (length source)) st.nesting.depth)

    brackets_are : (format_with o (decode source)).open_brackets ≡ open_now
    unfolding format_with finish
    brackets_are = ap open_lines (sym held_here.stack)

    long_is : size (format_with o (decode source)).text ≡ n
    long_is = ap size text_is ∙ sym (w.long (formatted_lines o source).lines held_here.text)

    abbrev pub counted : ℕ → Counted
    counted k = record { length = n; imports_split = st.imports; blank_names = st.blanks; open_brackets = k }

    abbrev outcome_counted : ℕ → Outcome
    outcome_counted k = Ok (counted k)

    pub text_short : length out₂ < n → Told (open_lines (stacked scratch₁ 0 0)) (length list₀) (length scratch₁) r list₁ scratch₂
        → Fitted (format_with o (decode source)) (length out₀) (length list₀) (length scratch₀) (Err (Refusal.OutputShort n)) out₂ list₁ scratch₂
    unfolding choose
    text_short h z =
        record {
          outcome = rw (long_is, lt-ltb (length out₀) n (omega arith));
          output = w.zeros (omega arith) ∙ rw eo;
          opened = none_told scratch₁ z;
          cleared = z.cleared ∙ rw es;
        }

    pub text_fits : n ≤ length out₂ → Told open_now (length list₀) (length scratch₁) r list₁ scratch₂
        → Fitted (format_with o (decode source)) (length out₀) (length list₀) (length scratch₀) (Ok (counted r)) out₂ list₁ scratch₂
    unfolding choose
    text_fits h z =
        record {
          outcome =
              rw (long_is, le-ltb (length out₀) n (omega arith), imports_is, blanks_is, brackets_are)
              (ap outcome_counted z.listed.count);
          output = w.text (formatted_lines o source).lines held_here.text (omega arith) ∙ rw (eo, ← text_is);
          opened = z.listed.holds ∙ ap (listed (length list₀)) (sym brackets_are);
          cleared = z.cleared ∙ rw es;
        }

-- a table that passed has its length
whole_table : (table : List ℕ) → wrong_length table ≡ Ok tt → length table ≡ table_length
whole_table table = go (eqb (length table) table_length) refl
  where
    go : (b : Bool) → eqb (length table) table_length ≡ b → wrong_length table ≡ Ok tt → length table ≡ table_length
    go true e h = eqb-true (length table) table_length e
    go false e h =
        absurd (let z : ◌≡◌ {A = ℕ} 0 1 = cc (h, sym (test_on (not (eqb (length table) table_length)) Refusal.StrengthsLength (rw e)), wrong_is) in omega arith)
      where
        wrong_is : wrong_length table ≡ refuse_if (not (eqb (length table) table_length)) Refusal.StrengthsLength
        wrong_is = refl

-- ---- the tests

all_pass : {A : Type 0} (w b l r s i : Verdict) (x : Result A Refusal)
    → and_then (tested (w ∷ b ∷ [])) (λ _. and_then l (λ _. and_then r (λ _. and_then (tested (s ∷ i ∷ [])) (λ _. x))))
    ≡ and_then (tested (w ∷ b ∷ l ∷ Ok tt ∷ r ∷ s ∷ i ∷ [])) (λ _. x)
all_pass (Err q) b l r s i x = refl
all_pass (Ok _) (Err q) l r s i x = refl
all_pass (Ok _) (Ok _) (Err q) r s i x = refl
all_pass (Ok _) (Ok _) (Ok _) (Err q) s i x = refl
all_pass (Ok _) (Ok _) (Ok _) (Ok _) (Err q) i x = refl
all_pass (Ok _) (Ok _) (Ok _) (Ok _) (Ok _) (Err q) x = refl
all_pass (Ok _) (Ok _) (Ok _) (Ok _) (Ok _) (Ok _) x = refl

one_refuses : {A : Type 0} (w b l : Verdict) (why : Refusal) (ts : List Verdict) (x : A)
    → ◌≡◌ {A = Result A Refusal} (and_then (tested (w ∷ b ∷ [])) (λ _. and_then l (λ _. Err why))) (and_then (tested (w ∷ b ∷ l ∷ Err why ∷ ts)) (λ _. Ok x))
one_refuses (Err q) b l why ts x = refl
one_refuses (Ok _) (Err q) l why ts x = refl
one_refuses (Ok _) (Ok _) (Err q) why ts x = refl
one_refuses (Ok _) (Ok _) (Ok _) why ts x = refl

fifth_refuses : (w b l r : Verdict) (why : Refusal) (ts : List Verdict) → tested (w ∷ b ∷ []) ≡ Ok tt → l ≡ Ok tt → r ≡ Err why
    → tested (w ∷ b ∷ l ∷ Ok tt ∷ r ∷ ts) ≡ Err why
fifth_refuses (Ok _) (Ok _) l r why ts e f g = rw (f, g) refl
fifth_refuses (Ok _) (Err q) l r why ts e f g = absurd (cc)
fifth_refuses (Err q) b l r why ts e f g = absurd (cc)

-- the ruler's test, behind those of the table, of the source's length and of the options
pub test_ruler : (table source : List ℕ) (bad : Bool) (ruler scratch : ℕ) → tested (wrong_length table ∷ bits_set table ∷ []) ≡ Ok tt → long_source source ≡ Ok tt
    → bad ≡ false → max_ruler < ruler → tested (format_tests table source bad ruler scratch) ≡ Err Refusal.RulerTooWide
unfolding choose
test_ruler table source bad ruler scratch e f g h =
    rw g (fifth_refuses (wrong_length table) (bits_set table) (long_source source) (wide_ruler ruler) Refusal.RulerTooWide
    (short_scratch (scratch_needed format_scratch source) scratch ∷ ill_formed source ∷ []) e f (rw (lt-ltb max_ruler ruler h)))

-- `tested_options`, of options that are refused or given
pub chosen_tests : (table source : List ℕ) (bad : Bool) (o : FormatOptions) (scratch : ℕ)
    → tested_options table source (choose bad (Err Refusal.BadOption) (Ok o)) scratch
    ≡ and_then (tested (format_tests table source bad o.ruler_tab scratch)) (λ _. Ok o)
unfolding choose
chosen_tests table source true o scratch =
    one_refuses (wrong_length table) (bits_set table) (long_source source) Refusal.BadOption
    (wide_ruler o.ruler_tab ∷ short_scratch (scratch_needed format_scratch source) scratch ∷ ill_formed source ∷ [])
    o
chosen_tests table source false o scratch =
    all_pass (wrong_length table) (bits_set table) (long_source source) (wide_ruler o.ruler_tab)
    (short_scratch (scratch_needed format_scratch source) scratch)
    (ill_formed source)
    (Ok o)

-- of the options that choices name
pub named_tests : (table source : List ℕ) (k : Choices) (scratch : ℕ)
    → tested_options table source (held_named k) scratch
    ≡ and_then (tested (format_tests table source (not (valid_options k)) k.numbers.ruler_tab scratch)) (λ _. Ok (held (options_of k)))
unfolding options_of
named_tests table source k scratch =
    ap (λ (r : Result FormatOptions Refusal). tested_options table source r scratch) (other_way (valid_options k))
    ∙ chosen_tests table source (not (valid_options k)) (held (options_of k)) scratch
  where
    other_way : (b : Bool) → choose b (Ok (held (options_of k))) (Err Refusal.BadOption) ≡ choose (not b) (Err Refusal.BadOption) (Ok (held (options_of k)))
    other_way true = unfold choose in refl
    other_way false = unfold choose in refl

-- ---- the outcome of a call

-- t is what `from_numbers` gives, v what `test` gives
module _
    (source indent : List ℕ) (numbers : OptionNumbers) (table output list scratch : List ℕ) (s : Strengths) (t v : Result FormatOptions Refusal)
    (reads : length table ≡ table_length → s.table ≡ table)
    (named : t ≡ held_named (record { indent = indent; numbers = numbers; strengths = s.table }))
    (tests : v ≡ tested_options table source t (length scratch))
  where
    abbrev c : Call
    c = call_of source indent numbers table (length output) (length list) (length scratch)

    abbrev read_with : List ℕ → FormatOptions
    read_with table' = held (options_of (record { indent = indent; numbers = numbers; strengths = table' }))

    abbrev first_tests : List Verdict
    first_tests = format_tests table source (not (valid_options c.choices)) numbers.ruler_tab (length scratch)

    -- which numbers are valid doesn't depend on the table
    test_is : and_then (tested first_tests) (λ _. Ok (read_with s.table)) ≡ v
    unfolding valid_options
    test_is =
        sym (tests ∙ ap (λ (r : Result FormatOptions Refusal). tested_options table source r (length scratch)) named
        ∙ named_tests table source (record { indent = indent; numbers = numbers; strengths = s.table }) (length scratch))

    ran_short : (why : Refusal) → v ≡ Err why → outcome_of c ≡ Err why
    unfolding outcome_of verdict_of
    ran_short why e =
        rw (ends first_tests (short_output (length (text_of c)) (length output) ∷ []) why
        (then_refused (tested first_tests) (read_with s.table) why (test_is ∙ e)))

    pub ran_refused : (why : Refusal) (r : Outcome) (out list' work : List ℕ) → v ≡ Err why
        → RefusedCall why (length output) (length list) (length scratch) r out list' work → Ran c r out list' work
    unfolding output_of opened_of
    ran_refused why r out list' work e w =
        record {
          outcome = w.outcome ∙ sym (ran_short why e);
          output = w.zeros ∙ rw (ran_short why e);
          opened = w.none ∙ rw (ran_short why e);
          scratch = w.cleared;
        }

    module _ (o : FormatOptions) (e : v ≡ Ok o) where
      all_passed : tested first_tests ≡ Ok tt
      all_passed = then_passed (tested first_tests) (read_with s.table) o (test_is ∙ e)

      table_passed : wrong_length table ≡ Ok tt
      table_passed = head_passed (wrong_length table) (drop 1 first_tests) all_passed

      pub options_held : o ≡ held (options_of c.choices)
      options_held =
          then_value (tested first_tests) (read_with s.table) o (test_is ∙ e)
          ∙ ap read_with (reads (whole_table table table_passed))

      pub admits : Admitted source c.choices (length scratch)
      admits = admitted source c.choices (length scratch) all_passed

      indent_is : ValidIndent indent
      unfolding valid_indent
      indent_is =
          let i : (leb (length indent) max_indent && all_blank indent) ≡ true = indent_valid c.choices admits.valid in
          record {
            blank = and_right (leb (length indent) max_indent) (all_blank indent) i;
            short = leb-true (length indent) max_indent (and_left (leb (length indent) max_indent) (all_blank indent) i);
          }

      own_indent : o.indent ≡ indent
      unfolding options_of
      own_indent = ap (λ (x : FormatOptions). x.indent) options_held

      pub passed : Passed source o.indent scratch
      passed =
          record {
            limit = admits.reads.short;
            well = test_wf source admits.reads.well;
            indents = rw own_indent indent_is;
            room = omega (arith, admits.reads.room);
          }

      pub ruler_small : o.ruler_tab ≤ max_ruler
      unfolding options_of
      ruler_small = rw (ap (λ (x : FormatOptions). x.ruler_tab) options_held) admits.ruler

      options_are : formatted c ≡ format_with (options_in o) (decode source)
      unfolding formatted options_of
      options_are = rw options_held

      outcome_is : outcome_of c ≡ outcome_in (length output) (formatted c)
      unfolding outcome_of verdict_of text_of
      outcome_is =
          ap (λ (u : Verdict). outcome_after u (length (text_of c)) (formatted c))
          (goes_on_law first_tests (short_output (length (text_of c)) (length output) ∷ []) all_passed
          ∙ one_test (short_output (length (text_of c)) (length output)))

      pub ran_formatted : (r : Outcome) (out list' work : List ℕ)
          → Fitted (format_with (options_in o) (decode source)) (length output) (length list) (length scratch) r out list' work → Ran c r out list' work
      unfolding output_of opened_of text_of
      ran_formatted r out list' work w =
          let i : r ≡ outcome_of c = w.outcome ∙ ap (outcome_in (length output)) (sym options_are) ∙ sym outcome_is in
          record { outcome = i; output = w.output ∙ rw (← options_are, i); opened = w.opened ∙ rw (← options_are, i); scratch = w.cleared }

pub answered : (c : Call) (r : Outcome) (a : Answer) (out list work : List ℕ) → Ran c r out list work → a ≡ answer_of r → FormatAnswered c a out list work
answered c r a out list work w e =
    let i : a ≡ answer_of (outcome_of c) = e ∙ ap answer_of w.outcome in
    record {
      answer = i;
      output = w.output;
      opened = w.opened;
      scratch = w.scratch;
      well = answer_well c a out i w.output;
      kept = answer_kept c a out i w.output;
      quoted = c22_call c a out i w.output;
    }

-- the text that a call gave
module _ (c : Call) (t : Counted) (out list work : List ℕ) (w : Ran c (Ok t) out list work) where
  pub text_delivered : Delivered c t.length t.imports_split t.blank_names
  text_delivered = delivered c (Ok t) (sym w.outcome) refl

  pub text_taken : take t.length out ≡ text_of c
  text_taken = ap (take t.length) w.output ∙ text_delivered.bytes

  pub text_within : t.length ≤ length out
  text_within = omega (arith, text_delivered.long, ap length text_taken, length-take t.length out)
