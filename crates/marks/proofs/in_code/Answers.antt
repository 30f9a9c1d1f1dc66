use Rattle.rules.specs.Scan.{in_code}
use Rattle.rules.proofs.Choose.{picks}
use Rattle.marks.proofs.in_code.Goals as goal

pub returns-then-first_is : goal.returns-then-first_is
unfolding in_code
returns-then-first_is c = search picks depth 20

pub returns-then-first_is-2 : goal.returns-then-first_is-2
unfolding in_code
returns-then-first_is-2 c = search picks depth 20

pub returns-then-first_is-3 : goal.returns-then-first_is-3
unfolding in_code
returns-then-first_is-3 c = search picks depth 20

pub returns-then-starts_with : goal.returns-then-starts_with
unfolding in_code
returns-then-starts_with c = search picks depth 20

pub returns-then-starts_with-2 : goal.returns-then-starts_with-2
unfolding in_code
returns-then-starts_with-2 c = search picks depth 20

pub returns-then-starts_with-3 : goal.returns-then-starts_with-3
unfolding in_code
returns-then-starts_with-3 c = search picks depth 20

pub returns-else-starts_with-3 : goal.returns-else-starts_with-3
unfolding in_code
returns-else-starts_with-3 c = search picks depth 20
