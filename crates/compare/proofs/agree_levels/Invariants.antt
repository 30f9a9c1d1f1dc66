-- The invariant is `Leveling`, the model starts with so many indents, which end at `at`; its laws are in
-- proofs/WriterLaws.antt.
use Rattle.compare.proofs.WriterLaws.{Leveling}
use Rattle.compare.proofs.agree_levels.Given as goal

abbrev pub invariant-loop : goal.invariant-loop
invariant-loop l = Leveling l.model l.pad.indent.now l.pad.levels l.at l.counter
