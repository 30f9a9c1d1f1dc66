-- `levels_in` meets its contract: the invariant is `Counting`, of the first i entries `levels` added one; its laws are
-- in proofs/LevelLaws.antt.
use Rattle.wirescript_parts.proofs.LevelLaws.{Counting}
use Rattle.wirescript_parts.proofs.levels_in.Given as goal

abbrev pub invariant-loop-i : goal.invariant-loop-i
invariant-loop-i l = Counting l.scratch l.base l.depth l.levels l.i
