-- `utf8::size_before` meets its contract: in a well-formed list the last bytes tell the size (`Back.back-1` and so
-- on). Assumes nothing.
use Rattle.utf8.proofs.Back.{back_1, beyond_1, back_2, beyond_2, back_3, back_4}
use borrow.Author.Rules.{rules}
use Rattle.utf8.proofs.size_before.Goals as goal

pub returns-then-s-e-lt128 : goal.returns-then-s-e-lt128
returns-then-s-e-lt128 c = search (rules, back_1)

pub overflow_sub-e-else-s-e-lt128 : goal.overflow_sub-e-else-s-e-lt128
overflow_sub-e-else-s-e-lt128 c = search (rules, beyond_1)

pub returns-then-s-e-ge192 : goal.returns-then-s-e-ge192
returns-then-s-e-ge192 c = search (rules, back_2)

pub overflow_sub-e-else-s-e-ge192 : goal.overflow_sub-e-else-s-e-ge192
overflow_sub-e-else-s-e-ge192 c = search (rules, beyond_2)

pub returns-then-s-e-ge192-2 : goal.returns-then-s-e-ge192-2
returns-then-s-e-ge192-2 c = search (rules, back_3)

pub returns-else-s-e-ge192-2 : goal.returns-else-s-e-ge192-2
returns-else-s-e-ge192-2 c = search (rules, back_4)
