use Rattle.std.proofs.Common.{sym, ◌∙◌}
use Rattle.split_operation.specs.Pass.{QuietRun}
use Rattle.split_operation.proofs.RunLaws.{run_on}
use Rattle.split_operation.proofs.pass.quiet_run.Goals as goal

pub loop-i-init : goal.loop-i-init
loop-i-init c = QuietRun.begins

pub loop-i-preserved : goal.loop-i-preserved
loop-i-preserved c = run_on c.loop-i.invariant c.loop-i-test.true c.requires.none _ c.is_operand-operand.ensures (sym c.is_quiet.ensures ∙ c.if-not-is_quiet.false)
