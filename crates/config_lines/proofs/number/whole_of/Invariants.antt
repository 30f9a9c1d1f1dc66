-- `whole_of` meets its contract: the invariant is `Adding`, the characters so far are digits that spell n; its laws are
-- in proofs/WholeLaws.antt.
use Rattle.config_lines.proofs.WholeLaws.{Adding}
use Rattle.config_lines.proofs.number.whole_of.Given as goal

abbrev pub invariant-loop-c : goal.invariant-loop-c
invariant-loop-c l = Adding l.v l.c-index l.n
