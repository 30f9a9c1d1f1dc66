use Rattle.rules.specs.Scan.{in_block}
use Rattle.rules.proofs.Choose.{picks}
use Rattle.marks.proofs.in_block.Goals as goal

pub returns-then-starts_with : goal.returns-then-starts_with
unfolding in_block
returns-then-starts_with c = search picks depth 20

pub returns-then-d-le1 : goal.returns-then-d-le1
unfolding in_block
returns-then-d-le1 c = search picks depth 20

pub returns-else-d-le1 : goal.returns-else-d-le1
unfolding in_block
returns-else-d-le1 c = search picks depth 20

pub returns-else-starts_with-2 : goal.returns-else-starts_with-2
unfolding in_block
returns-else-starts_with-2 c = search picks depth 20
