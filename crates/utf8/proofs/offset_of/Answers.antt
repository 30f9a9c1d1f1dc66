use borrow.Author.Rules.{rules}
use Rattle.utf8.proofs.Column.{column_begin, column_turn, column_past, column_end}
use Rattle.utf8.proofs.offset_of.Goals as goal

pub loop-init : goal.loop-init
loop-init c = search (rules, column_begin)

pub returns-then-s-i : goal.returns-then-s-i
returns-then-s-i c = search (rules, column_past)

pub loop-preserved : goal.loop-preserved
loop-preserved c = search (rules, column_turn)

pub returns : goal.returns
returns c = search (rules, column_end)
