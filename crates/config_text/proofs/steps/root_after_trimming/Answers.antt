use Rattle.std.proofs.Common.{rules}
use Rattle.config_text.proofs.StepLaws.{key_well, value_well, trimmed_root_set, trimmed_root_kept}
use Rattle.config_text.proofs.steps.root_after_trimming.Goals as goal

pub trimmed-requires : goal.trimmed-requires
trimmed-requires c = key_well c.args.line c.in-Some-Pair.key c.in-Some-Pair.value (search rules) c.requires

pub trimmed-requires-in-Some-Pair : goal.trimmed-requires-in-Some-Pair
trimmed-requires-in-Some-Pair c = value_well c.args.line c.in-Some-Pair.key c.in-Some-Pair.value (search rules) c.requires

pub returns-in-Some-Pair : goal.returns-in-Some-Pair
returns-in-Some-Pair c =
    trimmed_root_set c.args.line c.in-Some-Pair.key c.in-Some-Pair.value (search rules) c.requires _ c.trimmed.ensures _ c.trimmed-in-Some-Pair.ensures _ c.is_word.ensures c.if-is_word.true _ _
    c.is_word-in-Some-Pair.ensures

pub returns-in_default : goal.returns-in_default
returns-in_default c =
    trimmed_root_kept c.args.line c.in-Some-Pair.key c.in-Some-Pair.value (search rules) c.requires _ c.trimmed.ensures _ c.is_word.ensures c.if-is_word.false _
