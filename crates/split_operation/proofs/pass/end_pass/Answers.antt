use Rattle.split_operation.proofs.PassLaws.{end_found, end_open}
use Rattle.split_operation.proofs.pass.end_pass.Goals as goal

pub returns-then-depth-eq0 : goal.returns-then-depth-eq0
returns-then-depth-eq0 c = end_found _ _ c.if-depth-eq0.true

pub returns-else-depth-eq0 : goal.returns-else-depth-eq0
returns-else-depth-eq0 c = end_open _ _ c.if-depth-eq0.false
