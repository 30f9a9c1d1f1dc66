-- `count_block` meets its contract: the invariant is `Counted`, whose laws are in proofs/BlockLaws.antt.
use Rattle.caret.specs.Blocks.{Counted}
use Rattle.caret.proofs.counting.count_block.Given as goal

abbrev pub invariant-loop-k : goal.invariant-loop-k
invariant-loop-k g l = Counted g.T.CharTest.meets l.s l.at l.k l.high l.n
