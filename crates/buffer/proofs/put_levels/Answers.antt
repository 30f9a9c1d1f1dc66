use borrow.Author.Rules.{rules}
use Rattle.buffer.proofs.LoopLaws.{indenting_start, indenting_more, indenting_full}
use Rattle.buffer.proofs.put_levels.Goals as goal

pub loop-init : goal.loop-init
loop-init c = search (rules, indenting_start)

pub returns-then-out-at : goal.returns-then-out-at
returns-then-out-at c = search (rules, indenting_full)

pub loop-preserved : goal.loop-preserved
loop-preserved c = search (rules, indenting_more)
