use borrow.Author.Rules.{rules}
use Rattle.ranges.proofs.SlotLaws.{far_is}
use Rattle.ranges.proofs.far_next.Goals as goal

pub returns : goal.returns
returns c = search (rules, far_is)
