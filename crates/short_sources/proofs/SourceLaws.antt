-- What is printed for one source: the call is accepted, and its text fits.
--     called    `format_short`: what the call leaves in its output
--     added     `add_source`
use Prim.Native.Nat.{ℕ, zero, suc, ◌≤◌, ◌<◌}
use native.Mathlib.Nat.{not-suc-le-zero, le_of_suc-le-suc}
use native.Mathlib.Omega.{arith}
use mathlib.Core.Bool.{true}
use mathlib.Core.List.{List, [], ◌∷◌}
use mathlib.Core.Path.{◌≡◌, refl, ap, ◌∙◌}
use lib.ListN.{length, get_or, take}
use lib.Dec.{ltb}
use borrow.Author.Tests.{le-ltb, ltb-true}
use Rattle.utf8.specs.Unicode.{decode, encode}
use Rattle.utf8.proofs.Tests.{and_left, and_right}
use Rattle.utf8.proofs.Decode.{Ascii, decode_ascii, wf_ascii, wf_test}
use Rattle.buffer.specs.Buffer.{Appended}
use Rattle.buffer.proofs.WriteLaws.{appended_append}
use Rattle.decimal.specs.Decimal.{digits, DecimalPut}
use Rattle.rules.specs.Basics.{choose, codes}
use Rattle.rules.specs.Options.{Options, defaults, valid_indent, all_blank}
use Rattle.rules.specs.Assembly.{format_with, default_text}
use Rattle.rules.specs.Refusals.{max_source, scratch_needed, refuse_if, tested, wrong_length, bits_set, long_source, bad_option, wide_ruler, short_scratch, ill_formed, short_output}
use Rattle.rules.specs.Strengths.{built_in, fields_of, last_bits}
use Rattle.rules.specs.Choices.{default_numbers, print_width_named, end_of_line_named, final_newline_named, valid_options, options_of}
use Rattle.rules.specs.Call.{Call, format_scratch, formatted, text_of, verdict_of, outcome_of, answer_of}
use Rattle.rules.specs.declared.Answer.{Answer}
use Rattle.rules.proofs.StartsBytes.{all_ascii}
use Rattle.rules.proofs.CallLaws.{delivered}
use Rattle.call.specs.Ran.{call_of}
use Rattle.call.specs.FormatAnswered.{FormatAnswered}
use Rattle.short_texts.specs.Texts.{letters, AllLetters, Short}
use Rattle.short_sources.specs.Printed.{printed, TextIn, Added}
use Rattle.short_sources.proofs.SizeLaws.{text_fits}

-- ---- a short source is ASCII

ascii_at : (l : List ℕ) (k : ℕ) → all_ascii l ≡ true → k < length l → get_or l k 0 < 0x80
ascii_at [] k a h = absurd (not-suc-le-zero h)
ascii_at (c ∷ l) zero a h = ltb-true c 0x80 (and_left (ltb c 0x80) (all_ascii l) a)
ascii_at (c ∷ l) (suc k) a h = ascii_at l k (and_right (ltb c 0x80) (all_ascii l) a) (le_of_suc-le-suc h)

letter_ascii : (k : ℕ) → k < 12 → get_or letters k 0 < 0x80
letter_ascii k h = ascii_at letters k refl h

short_ascii : (t : List ℕ) → AllLetters t → Ascii t
unfolding AllLetters
short_ascii [] h = tt
short_ascii (c ∷ t) h =
    (rw h.0.2 at (letter_ascii h.0.0 h.0.1), short_ascii t h.1)

-- ---- the call

-- the call, with an output of n bytes
abbrev short_call : List ℕ → ℕ → Call
short_call source n = call_of source (codes "  ") default_numbers built_in n 0 512

module _ (source : List ℕ) (n : ℕ) where
  options_default : options_of (short_call source n).choices ≡ defaults
  unfolding options_of
  options_default = refl

  text_is : text_of (short_call source n) ≡ default_text source
  unfolding text_of formatted default_text
  text_is = ap (λ (o : Options). encode (format_with o (decode source)).text) options_default

  module _ (s : Short source) where
    text_short : length (default_text source) ≤ 456
    unfolding default_text
    text_short = rw (decode_ascii source (short_ascii source s.letters)) (text_fits source s.few)

    -- no refusal applies
    accepted : 456 ≤ n → (answer_of (outcome_of (short_call source n))).refusal ≡ 0
    unfolding outcome_of verdict_of last_bits fields_of choose valid_options valid_indent all_blank
    accepted h =
        rw (
          le-ltb max_source (length source) (omega (arith, s.few)),
          le-ltb 512 (scratch_needed format_scratch source) (omega (arith, s.few)),
          wf_test source (wf_ascii source (short_ascii source s.letters)),
          le-ltb n (length (text_of (short_call source n))) (omega (arith, text_short, ap length text_is)),
        )

    pub called : 456 ≤ n → (a : Answer) (out list work : List ℕ) → FormatAnswered (short_call source n) a out list work
        → TextIn source out a.length
    called h a out list work f =
        let c : Call = short_call source n in
        let d = delivered c (outcome_of c) refl (accepted h) in
        let m : a.length ≡ (answer_of (outcome_of c)).length = ap (λ (b : Answer). b.length) f.answer in
        let l : a.length ≡ length (default_text source) = m ∙ d.long ∙ ap length text_is in
        record { size = l; is = rw (m, f.output) (d.bytes ∙ text_is); short = omega (arith, l, text_short) }

pub added : (source out page x y z : List ℕ) (n at behind from r : ℕ)
    → TextIn source out n → DecimalPut page x at n behind → Appended x y behind (10 ∷ []) from
    → Appended y z from (take n out) r → Added page z at source r
unfolding printed
added source out page x y z n at behind from r t p q w =
    let u : Appended y z from (default_text source) r = rw t.is at w in
    let d : Appended page x at (digits (length (default_text source))) behind = rw t.size at p.appended in
    record {
      appended = appended_append d (appended_append q u);
      short = omega (arith, p.short, q.next, u.next, t.size, t.short);
    }
