use Rattle.replay_run.proofs.ListLaws.{case_read}
use Rattle.replay_run.proofs.list.case_at.Goals as goal

pub returns : goal.returns
returns c = case_read _ _ _ _ _ _ _ _ _ c.number_at-source.ensures c.number_at-indent.ensures c.number_at-answer.ensures c.number_at-width_set.ensures c.number_at-width.ensures c.number_at-line_ending.ensures c.number_at-final_newline.ensures
