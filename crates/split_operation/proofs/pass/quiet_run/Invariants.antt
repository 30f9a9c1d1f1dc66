-- `quiet_run` meets its contract: the invariant is `QuietRun` of specs/Pass.antt, words and gaps stand from `from` up
-- to i.
use Rattle.split_operation.specs.Pass.{QuietRun}
use Rattle.split_operation.proofs.pass.quiet_run.Given as goal

abbrev pub invariant-loop-i : goal.invariant-loop-i
invariant-loop-i l = QuietRun l.line l.class l.from l.fn.s l.i l.operand
