-- C-22: what a text keeps of the strings and prefabs of its source, where no print width is set.
use Rattle.std.specs.Prelude.{None}
use Prim.Native.Nat.{ℕ}
use mathlib.Core.Bool.{true}
use mathlib.Core.List.{List}
use Rattle.std.specs.Prelude.{unwrap_or}
use mathlib.Core.Path.{◌≡◌, refl, sym, ap, ◌∙◌, subst}
use lib.ListN.{take}
use Rattle.utf8.specs.Unicode.{decode}
use Rattle.rules.specs.Options.{Options, defaults, all_blank}
use Rattle.rules.specs.Assembly.{format_with}
use Rattle.rules.specs.Choices.{print_width_named, options_of}
use Rattle.rules.specs.Call.{Call, formatted, outcome_of, answer_of, output_of}
use Rattle.rules.specs.Quoted.{QuotedKept}
use Rattle.rules.specs.declared.Answer.{Answer}
use Rattle.rules.proofs.CallLaws.{accepted, indent_blank, delivered}
use Rattle.quoted.proofs.Text.{strings_stand}
use Rattle.quoted.proofs.Prefabs.{prefabs_follow}

pub c22 : (o : Options) → all_blank o.indent ≡ true → o.print_width ≡ None → (source : List ℕ)
    → QuotedKept o.end_of_line source (format_with o source).text
c22 o h off source = record { strings = strings_stand o h off source; prefabs = prefabs_follow o h off source }

-- of an accepted call without a print width: an answer and an output that are those of the call
pub c22_call : (c : Call) (a : Answer) (out : List ℕ) → a ≡ answer_of (outcome_of c) → out ≡ output_of c → a.refusal ≡ 0
    → c.choices.numbers.width_set ≡ 0
    → QuotedKept (options_of c.choices).end_of_line (decode c.source) (decode (take a.length out))
unfolding options_of formatted
c22_call c a out e f z w =
    let y : (answer_of (outcome_of c)).refusal ≡ 0 = sym (ap (λ (b : Answer). b.refusal) e) ∙ z in
    let chars : decode (take a.length out) ≡ (formatted c).text =
    rw (f, e) (delivered c (outcome_of c) refl y).chars in
    let off : (options_of c.choices).print_width ≡ None =
    ap (λ (n : ℕ). unwrap_or (print_width_named n c.choices.numbers.width) defaults.print_width) w in
    subst (QuotedKept (options_of c.choices).end_of_line (decode c.source)) (sym chars)
    (c22 (options_of c.choices) (indent_blank c (outcome_of c) (accepted c y)) off (decode c.source))
