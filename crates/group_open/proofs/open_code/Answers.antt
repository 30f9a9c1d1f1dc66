use Rattle.group_open.proofs.BackLaws.{code_bracket, code_closer, code_operator, code_plain, moved_plain}
use borrow.Author.Rules.{rules}
use Rattle.group_open.proofs.open_code.Goals as goal

pub returns-in-Opener : goal.returns-in-Opener
returns-in-Opener c = let h = c.in-Opener.ensures in search (rules, code_bracket)

pub returns-in-Closer : goal.returns-in-Closer
returns-in-Closer c = let h = c.in-Closer.ensures in search (rules, code_closer)

pub returns-in-Right : goal.returns-in-Right
returns-in-Right c = let h = c.in-Right.ensures in search (rules, code_operator)

pub returns-in-Left : goal.returns-in-Left
returns-in-Left c = code_plain c.args.b c.from.ensures c.in-Left.is (moved_plain c.requires c.put.ensures)
