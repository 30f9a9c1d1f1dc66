use Rattle.group_open.proofs.BackLaws.{opening_more, opening_stop, opening_end}
use borrow.Author.Rules.{rules}
use Rattle.group_open.proofs.open_after.Goals as goal

pub loop-o-preserved : goal.loop-o-preserved
loop-o-preserved c = search (rules, opening_more)

pub returns-else-second_takes : goal.returns-else-second_takes
returns-else-second_takes c = search (rules, opening_stop)

pub returns-after-loop-o : goal.returns-after-loop-o
returns-after-loop-o c = search (rules, opening_end)
