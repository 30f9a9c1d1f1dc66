use Rattle.std.proofs.Common.{rules, arith}
use Rattle.utf8.proofs.Scan.{run_start, run_block}
use Rattle.utf8.proofs.past_blocks.Goals as goal

pub loop-i-init : goal.loop-i-init
loop-i-init c = search (rules, run_start)

pub loop-i-preserved : goal.loop-i-preserved
loop-i-preserved c =
    run_block c.loop-i.invariant (omega arith) c.any_among.ensures c.if-not-any_among.true c.past_blocks-i.ensures
