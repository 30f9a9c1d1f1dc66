use borrow.Author.Rules.{rules}
use Rattle.group.proofs.GroupCall.{answered}
use Rattle.group.proofs.group_call.Goals as goal

pub returns : goal.returns
returns c = search (rules, answered)
