-- `ranges_next` meets its contract: the invariant is `Ranging`, the ranges before p have read the character, those from
-- p on haven't; its laws are in proofs/SlotsLaws.antt.
use Rattle.glob_match.proofs.SlotsLaws.{Ranging}
use Rattle.glob_match.proofs.ranges_next.Given as goal

abbrev pub invariant-loop-p : goal.invariant-loop-p
invariant-loop-p l = Ranging l.name.kinds.now l.name.chars.now l.v l.c l.initial.state l.p l.state l.hits
