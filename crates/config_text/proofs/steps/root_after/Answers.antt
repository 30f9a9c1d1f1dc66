use Rattle.std.proofs.Common.{rules}
use Rattle.config_text.proofs.StepLaws.{root_set, root_kept}
use Rattle.config_text.proofs.steps.root_after.Goals as goal

pub returns-in-Some-Pair : goal.returns-in-Some-Pair
returns-in-Some-Pair c =
    root_set c.args.line c.in-Some-Pair.key c.in-Some-Pair.value (search rules) c.requires _ c.is_word.ensures c.if-is_word.true _ _ c.is_word-in-Some-Pair.ensures

pub returns-in_default : goal.returns-in_default
returns-in_default c = root_kept c.args.line c.in-Some-Pair.key c.in-Some-Pair.value (search rules) c.requires _ c.is_word.ensures c.if-is_word.false _
