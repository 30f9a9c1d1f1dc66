use Rattle.split_operation.specs.Pass.{QuietRun}
use Rattle.split_operation.proofs.pass.run_at.Goals as goal

pub returns-else-is_plain : goal.returns-else-is_plain
returns-else-is_plain c = QuietRun.begins
