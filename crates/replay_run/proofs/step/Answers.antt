use Rattle.replay_run.proofs.RunLaws.{step_comment, step_cut, step_agreed, step_differed}
use Rattle.replay_run.proofs.step.Goals as goal

pub returns-then-list-p-eq35 : goal.returns-then-list-p-eq35
returns-then-list-p-eq35 g c = step_comment _ _ _ _ c.requires _ c.if-list-p-eq35.true c.line_end-end.ensures

pub returns-then-list-c : goal.returns-then-list-c
returns-then-list-c g c = step_cut _ _ _ _ c.requires _ _ c.if-list-p-eq35.false c.case_at-c.ensures c.if-list-c.true c.differed.ensures

pub returns-then-agrees : goal.returns-then-agrees
returns-then-agrees g c = step_agreed _ _ _ _ c.requires _ _ c.if-list-p-eq35.false c.case_at-c.ensures c.if-list-c.false _ c.agrees.ensures c.if-agrees.true c.agreed.ensures

pub returns : goal.returns
returns g c = step_differed _ _ _ _ c.requires _ _ c.if-list-p-eq35.false c.case_at-c.ensures c.if-list-c.false _ c.agrees.ensures c.if-agrees.false c.differed-2.ensures
