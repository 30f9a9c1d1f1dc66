use Rattle.brackets.proofs.StackLaws.{line_read}
use borrow.Author.Rules.{rules}
use Rattle.brackets.proofs.read_line.Goals as goal

pub returns : goal.returns
returns c = search (rules, line_read)
