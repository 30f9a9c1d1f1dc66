use borrow.Author.Rules.{rules}
use Rattle.top_level_ops.proofs.StepLaws.{passed_token, byte_stays, byte_skips, byte_fresh}
use Rattle.top_level_ops.proofs.OpState.step.Goals as goal

pub returns-then-is_tail-clause-stepped : goal.returns-then-is_tail-clause-stepped
returns-then-is_tail-clause-stepped c = λ t. search (rules, byte_stays)

pub returns-then-self-gt0-clause-stepped : goal.returns-then-self-gt0-clause-stepped
returns-then-self-gt0-clause-stepped c = λ t. search (rules, byte_skips, passed_token)

pub returns-else-self-gt0-clause-stepped : goal.returns-else-self-gt0-clause-stepped
returns-else-self-gt0-clause-stepped c = λ t. let h = c.fresh_step.ensures.stepped t in search (rules, byte_fresh)
