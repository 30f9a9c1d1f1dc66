use Rattle.config_text.proofs.WalkLaws.{root_found, root_more, root_end}
use Rattle.config_text.proofs.is_root.Goals as goal

pub returns-then-starts_section : goal.returns-then-starts_section
returns-then-starts_section c = root_found _ _ _ c.loop-line.invariant _ _ c.in-Some.ensures.steps.0 _ c.starts_section.ensures c.if-starts_section.true

pub loop-line-preserved : goal.loop-line-preserved
loop-line-preserved c =
    root_more _ _ _ c.loop-line.invariant _ _ c.in-Some.ensures.steps.0 _ c.starts_section.ensures c.if-starts_section.false _ c.root_after_trimming-root.ensures c.in-Some.ensures.goes.keeps

pub returns : goal.returns
returns c = root_end _ _ _ c.loop-line.invariant c.in-None.ensures.steps.0
