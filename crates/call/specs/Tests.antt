-- The tests of a call, among them what its options came to when they were read.
use Rattle.std.specs.Prelude.{ℕ, List, [], ◌∷◌, Result, Ok}
use Rattle.rules.specs.Refusals.{scratch_needed, tested, and_then, wrong_length, bits_set, long_source, wide_ruler, short_scratch, ill_formed}
use Rattle.rules.specs.Call.{format_scratch}
use Rattle.rules.specs.declared.Refusal.{Refusal}
use Rattle.options.specs.declared.FormatOptions.{FormatOptions}

-- 12, 13 and 1, what refused the options, 11, 3 and 4: `format_tests`, with the options of what passes
-- (proofs/CallLaws.antt, `named_tests`)
abbrev pub tested_options : List ℕ → List ℕ → Result FormatOptions Refusal → ℕ → Result FormatOptions Refusal
tested_options table source options scratch =
    and_then (tested (wrong_length table ∷ bits_set table ∷ []))
    (λ _. and_then (long_source source)
    (λ _. and_then options
    (λ o. and_then (wide_ruler o.ruler_tab)
    (λ _. and_then (tested (short_scratch (scratch_needed format_scratch source) scratch ∷ ill_formed source ∷ []))
    (λ _. Ok o)))))
