use Rattle.std.proofs.Common.{rules}
use Rattle.config_text.proofs.StepLaws.{values_set, values_kept}
use Rattle.config_text.proofs.steps.values_after.Goals as goal

pub returns-in-Some-Pair : goal.returns-in-Some-Pair
returns-in-Some-Pair c =
    values_set c.args.line c.in-Some-Pair.key c.in-Some-Pair.value (search rules) c.requires _ _ _ c.if-applies.true c.superseded.ensures

pub returns-in_default : goal.returns-in_default
returns-in_default c = values_kept c.args.line c.in-Some-Pair.key c.in-Some-Pair.value (search rules) c.requires _ _ c.if-applies.false
