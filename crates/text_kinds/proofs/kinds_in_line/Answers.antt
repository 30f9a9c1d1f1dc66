use borrow.Author.Rules.{rules}
use Rattle.text_kinds.proofs.LineLaws.{in_line_tail, in_line_first, in_line_left, in_line_end}
use Rattle.text_kinds.proofs.kinds_in_line.Goals as goal

pub loop-i-preserved-then-is_tail : goal.loop-i-preserved-then-is_tail
loop-i-preserved-then-is_tail c = search (rules, in_line_tail)

pub returns-then-not-is_on : goal.returns-then-not-is_on
returns-then-not-is_on c = search (rules, in_line_left)

pub loop-i-preserved : goal.loop-i-preserved
loop-i-preserved c = search (rules, in_line_first)

pub returns : goal.returns
returns c = search (rules, in_line_end)
