use Rattle.config_text.proofs.WalkLaws.{setting_named, setting_more, setting_end}
use Rattle.config_text.proofs.settings.Goals as goal

pub applies_after-applies-requires : goal.applies_after-applies-requires
applies_after-applies-requires c =
    setting_named _ _ _ _ _ _ c.loop-line.invariant _ _ c.in-Some.ensures.steps.0 c.in-Some.ensures.steps.1 c.requires.1

pub loop-line-preserved : goal.loop-line-preserved
loop-line-preserved c =
    setting_more _ _ _ _ _ _ c.loop-line.invariant _ _ c.in-Some.ensures.steps.0 _ _ c.applies_after-applies.ensures c.values_after_trimming-values.ensures c.in-Some.ensures.goes.keeps

pub returns : goal.returns
returns c = setting_end _ _ _ _ _ _ c.loop-line.invariant c.in-None.ensures.steps.0
