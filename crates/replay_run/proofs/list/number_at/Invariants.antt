-- `number_at` meets its contract: the invariant is `Reading`, n is what the digits from `at` up to i spell; its laws
-- are in proofs/ListLaws.antt.
use Rattle.replay_run.proofs.ListLaws.{Reading}
use Rattle.replay_run.proofs.list.number_at.Given as goal

abbrev pub invariant-loop-i : goal.invariant-loop-i
invariant-loop-i l = Reading l.list l.at l.n l.i
