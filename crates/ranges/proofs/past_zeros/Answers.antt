use borrow.Author.Rules.{rules}
use Rattle.ranges.proofs.EndLaws.{zeros_first}
use Rattle.ranges.proofs.past_zeros.Goals as goal

pub returns : goal.returns
returns c = search (rules, zeros_first)
