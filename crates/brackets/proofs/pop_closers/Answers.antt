use borrow.Author.Rules.{rules}
use Rattle.brackets.proofs.StackLaws.{popping_less, popping_more}
use Rattle.brackets.proofs.pop_closers.Goals as goal

pub overflow_sub-levels : goal.overflow_sub-levels
overflow_sub-levels c = search (rules, popping_less)

pub loop-i-preserved : goal.loop-i-preserved
loop-i-preserved c = search (rules, popping_more)
