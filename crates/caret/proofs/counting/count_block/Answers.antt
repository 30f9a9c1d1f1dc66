use borrow.Author.Rules.{rules}
use Rattle.caret.proofs.BlockLaws.{counted_start, counted_more}
use Rattle.caret.proofs.counting.count_block.Goals as goal

pub loop-k-init : goal.loop-k-init
loop-k-init g c = search (rules, counted_start)

pub loop-k-preserved : goal.loop-k-preserved
loop-k-preserved g c = search (rules, counted_more)
