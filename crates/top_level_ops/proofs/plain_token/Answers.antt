use Rattle.top_level_ops.proofs.StepLaws.{token_step_law}
use Rattle.top_level_ops.proofs.plain_token.Goals as goal

pub returns : goal.returns
returns c = λ table s. token_step_law table s _ _
