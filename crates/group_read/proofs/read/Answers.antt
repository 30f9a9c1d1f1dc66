use borrow.Author.Rules.{rules}
use Rattle.group_read.proofs.LoopLaws.{reads_start, reads_next, reads_refused, reads_end}
use Rattle.group_read.proofs.read.Goals as goal

pub loop-i-init : goal.loop-i-init
loop-i-init c = search (rules, reads_start)

pub returns-in-Err : goal.returns-in-Err
returns-in-Err c = search (rules, reads_refused)

pub loop-i-preserved : goal.loop-i-preserved
loop-i-preserved c = search (rules, reads_next)

pub returns : goal.returns
returns c = search (rules, reads_end)
