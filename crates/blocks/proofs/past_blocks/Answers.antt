use Rattle.std.proofs.Common.{arith}
use Rattle.blocks.proofs.Laws.{none_block}
use Rattle.blocks.proofs.past_blocks.Goals as goal

pub loop-i-preserved : goal.loop-i-preserved
loop-i-preserved g c =
    none_block _ _ _ _ _ _ c.loop-i.invariant (omega arith) c.any_among.ensures c.if-any_among.false
