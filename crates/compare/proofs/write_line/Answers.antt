use borrow.Author.Rules.{rules}
use Rattle.compare.proofs.WriterLaws.{line_written}
use Rattle.compare.proofs.write_line.Goals as goal

pub returns : goal.returns
returns c = search (rules, line_written)
