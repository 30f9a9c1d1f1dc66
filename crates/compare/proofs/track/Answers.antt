use borrow.Author.Rules.{rules}
use Rattle.compare.proofs.WriterLaws.{once_tracked}
use Rattle.compare.proofs.track.Goals as goal

pub returns : goal.returns
returns c = search (rules, once_tracked)
