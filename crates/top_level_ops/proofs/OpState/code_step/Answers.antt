use Rattle.rules.proofs.Choose.{picks}
use Rattle.top_level_ops.specs.Steps.{code_or}
use Rattle.top_level_ops.proofs.StepLaws.{passed_token, passed_bracket, opens, closes}
use Rattle.top_level_ops.proofs.OpState.code_step.Goals as goal

pub returns-then-is_blank-clause-stepped : goal.returns-then-is_blank-clause-stepped
unfolding code_or
returns-then-is_blank-clause-stepped c = λ t. search (picks, passed_token) depth 20

pub returns-then-is_opener-clause-stepped : goal.returns-then-is_opener-clause-stepped
unfolding code_or
returns-then-is_opener-clause-stepped c = λ t. let h = passed_bracket _ c.args.self.now t _ _ _ c.pass-then-is_opener.ensures in search (picks, opens) depth 20

pub returns-then-is_closer-clause-stepped : goal.returns-then-is_closer-clause-stepped
unfolding code_or
returns-then-is_closer-clause-stepped c = λ t. let h = passed_bracket _ c.args.self.now t _ _ _ c.pass-then-is_closer.ensures in search (picks, closes) depth 20

pub returns-else-is_closer-clause-stepped : goal.returns-else-is_closer-clause-stepped
unfolding code_or
returns-else-is_closer-clause-stepped c = λ t. search picks depth 20
