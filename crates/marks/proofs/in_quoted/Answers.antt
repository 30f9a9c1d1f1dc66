use Rattle.rules.specs.Scan.{in_quoted}
use Rattle.rules.proofs.Choose.{picks}
use Rattle.marks.proofs.in_quoted.Goals as goal

pub returns-then-first_is : goal.returns-then-first_is
unfolding in_quoted
returns-then-first_is c = search picks depth 20

pub returns-then-starts_with : goal.returns-then-starts_with
unfolding in_quoted
returns-then-starts_with c = search picks depth 20

pub returns-then-closes : goal.returns-then-closes
unfolding in_quoted
returns-then-closes c = search picks depth 20

pub returns-else-closes : goal.returns-else-closes
unfolding in_quoted
returns-else-closes c = search picks depth 20
