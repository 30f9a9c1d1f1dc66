-- `matches_at` meets its contract: the invariant is `Reading`, what is known of the path from e on, each place's value
-- among it; its laws are in proofs/PathLaws.antt.
use Rattle.glob_match.proofs.PathLaws.{Reading}
use Rattle.glob_match.proofs.matches_at.Given as goal

abbrev pub invariant-loop-e : goal.invariant-loop-e
invariant-loop-e l = Reading l.name.kinds.now l.name.chars.now l.path l.e l.v l.found l.state

abbrev pub decreases-loop-e : goal.decreases-loop-e
decreases-loop-e l = l.e
