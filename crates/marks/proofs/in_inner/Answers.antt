use Rattle.rules.specs.Scan.{in_inner}
use Rattle.rules.proofs.Choose.{picks}
use Rattle.marks.proofs.in_inner.Goals as goal

pub returns-then-first_is : goal.returns-then-first_is
unfolding in_inner
returns-then-first_is c = search picks depth 20

pub returns-then-closes : goal.returns-then-closes
unfolding in_inner
returns-then-closes c = search picks depth 20

pub returns-else-closes : goal.returns-else-closes
unfolding in_inner
returns-else-closes c = search picks depth 20
