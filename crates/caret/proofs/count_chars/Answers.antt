use borrow.Author.Rules.{rules}
use Rattle.caret.proofs.ScanLaws.{count_begin, count_end, count_tested}
use Rattle.caret.proofs.BlockLaws.{count_more}
use Rattle.caret.proofs.count_chars.Goals as goal

pub loop-i-init : goal.loop-i-init
loop-i-init g c = search (rules, count_begin)

pub loop-i-preserved-in-Some : goal.loop-i-preserved-in-Some
loop-i-preserved-in-Some g c = count_more _ _ _ _ _ c.loop-i.invariant c.in-Some.ensures

pub loop-i-preserved : goal.loop-i-preserved
loop-i-preserved g c = search (rules, count_tested)

pub returns : goal.returns
returns g c = search (rules, count_end)
