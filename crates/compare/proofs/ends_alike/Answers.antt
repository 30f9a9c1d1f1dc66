use borrow.Author.Rules.{rules}
use Rattle.compare.proofs.CommonLaws.{last_told}
use Rattle.compare.proofs.ends_alike.Goals as goal

pub returns : goal.returns
returns c = search (rules, last_told)
