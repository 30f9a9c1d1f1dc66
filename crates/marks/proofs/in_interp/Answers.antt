use Rattle.rules.specs.Scan.{in_interp}
use Rattle.rules.proofs.Choose.{picks}
use Rattle.marks.proofs.in_interp.Goals as goal

pub returns-then-first_is : goal.returns-then-first_is
unfolding in_interp
returns-then-first_is c = search picks depth 20

pub returns-then-first_is-2 : goal.returns-then-first_is-2
unfolding in_interp
returns-then-first_is-2 c = search picks depth 20

pub returns-then-first_is-3 : goal.returns-then-first_is-3
unfolding in_interp
returns-then-first_is-3 c = search picks depth 20

pub returns-then-first_is-4 : goal.returns-then-first_is-4
unfolding in_interp
returns-then-first_is-4 c = search picks depth 20

pub returns-then-d-le1 : goal.returns-then-d-le1
unfolding in_interp
returns-then-d-le1 c = search picks depth 20

pub returns-else-d-le1 : goal.returns-else-d-le1
unfolding in_interp
returns-else-d-le1 c = search picks depth 20

pub returns-else-first_is-5 : goal.returns-else-first_is-5
unfolding in_interp
returns-else-first_is-5 c = search picks depth 20
