use borrow.Author.Rules.{rules}
use Rattle.compare.proofs.WriterLaws.{parts_written}
use Rattle.compare.proofs.write_parts.Goals as goal

pub returns : goal.returns
returns c = search (rules, parts_written)
