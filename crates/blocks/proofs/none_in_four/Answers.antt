use Rattle.std.proofs.Common.{arith}
use Rattle.blocks.proofs.Laws.{none_four}
use Rattle.blocks.proofs.none_in_four.Goals as goal

pub returns : goal.returns
returns g c =
    none_four _ _ _ _ _ _ _ _ _ (omega arith, omega arith) c.min.ensures c.min-2.ensures
    c.any_among-a.ensures c.any_among-b.ensures c.any_among-c.ensures c.any_among-d.ensures
