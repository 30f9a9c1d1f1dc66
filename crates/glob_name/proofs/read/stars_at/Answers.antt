use borrow.Author.Rules.{rules}
use Rattle.glob_name.proofs.ReadLaws.{stars_is}
use Rattle.glob_name.proofs.read.stars_at.Goals as goal

pub returns : goal.returns
returns c = search (rules, stars_is)
