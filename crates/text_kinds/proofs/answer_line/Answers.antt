use borrow.Author.Rules.{rules}
use Rattle.text_kinds.proofs.LineLaws.{line_told, line_read}
use Rattle.text_kinds.proofs.answer_line.Goals as goal

pub returns-then-is_on : goal.returns-then-is_on
returns-then-is_on c = search (rules, line_read)

pub returns-else-is_on : goal.returns-else-is_on
returns-else-is_on c = search (rules, line_told)
