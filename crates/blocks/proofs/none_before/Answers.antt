use Rattle.std.proofs.Common.{arith}
use Rattle.blocks.proofs.Laws.{none_block, none_last}
use Rattle.blocks.proofs.none_before.Goals.{else-loop-i-test, then-loop-i-test+else-any_among+else-i-step-last}
use Rattle.blocks.proofs.none_before.Goals as goal

pub loop-i-preserved : goal.loop-i-preserved
loop-i-preserved g c =
    none_block _ _ _ _ _ _ c.loop-i.invariant (omega arith) c.any_among.ensures c.if-any_among.false

pub returns : goal.returns
returns g c =
    let f = c.loop-i.invariant in
    elim c.loop-i-test.branch [
      | else-loop-i-test w ↦
          none_last _ _ _ _ _ f (omega arith) (omega arith) c.any_among-2.ensures
      | then-loop-i-test+else-any_among+else-i-step-last w ↦
          let more = none_block _ _ _ _ _ _ f (omega arith) w.any_among.ensures w.if-any_among.false in
          none_last _ _ _ _ _ more (omega arith) (omega arith) c.any_among-2.ensures
    ]
