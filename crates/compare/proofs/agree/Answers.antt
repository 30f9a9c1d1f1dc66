use Rattle.std.proofs.Common.{rules}
use Rattle.compare.proofs.CommonLaws.{agreeing_whole, agreeing_first}
use Rattle.compare.proofs.agree.Goals as goal

pub returns-then-ends_alike : goal.returns-then-ends_alike
returns-then-ends_alike c = search (rules, agreeing_whole)

pub returns : goal.returns
returns c = search (rules, agreeing_first)
