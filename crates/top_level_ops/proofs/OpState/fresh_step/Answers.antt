use Rattle.rules.proofs.Choose.{picks}
use Rattle.top_level_ops.specs.Steps.{fresh_or}
use Rattle.top_level_ops.proofs.StepLaws.{passed_string, passed_escape, pick_string, pick_code}
use Rattle.top_level_ops.proofs.OpState.fresh_step.Goals as goal

pub returns-then-k-eq-STR-clause-stepped : goal.returns-then-k-eq-STR-clause-stepped
unfolding fresh_or
returns-then-k-eq-STR-clause-stepped c = λ t. search (picks, passed_string, pick_string) depth 20

pub returns-then-self-clause-stepped : goal.returns-then-self-clause-stepped
unfolding fresh_or
returns-then-self-clause-stepped c = λ t. search (picks, passed_escape, pick_code) depth 20

pub returns-then-c-eq92-clause-stepped : goal.returns-then-c-eq92-clause-stepped
unfolding fresh_or
returns-then-c-eq92-clause-stepped c = λ t. search (picks, passed_escape, pick_code) depth 20

pub returns-else-c-eq92-clause-stepped : goal.returns-else-c-eq92-clause-stepped
unfolding fresh_or
returns-else-c-eq92-clause-stepped c = λ t. let h = c.code_step.ensures.stepped t in search (picks, pick_code) depth 20
