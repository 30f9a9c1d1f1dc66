use Rattle.rules.specs.Scan.{in_prefab}
use Rattle.rules.proofs.Choose.{picks}
use Rattle.marks.proofs.in_prefab.Goals as goal

pub returns-then-starts_with : goal.returns-then-starts_with
unfolding in_prefab
returns-then-starts_with c = search picks depth 20

pub returns-else-starts_with : goal.returns-else-starts_with
unfolding in_prefab
returns-else-starts_with c = search picks depth 20
