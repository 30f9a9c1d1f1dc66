use Rattle.wsfmt_run.proofs.ProgramLaws.{refusal_put}
use Rattle.wsfmt_run.proofs.put_refusal.Goals as goal

pub returns : goal.returns
returns c = refusal_put _ _ c.append-a.ensures c.put_decimal-b.ensures c.append-c.ensures c.put_decimal-d.ensures c.append.ensures
