use borrow.Author.Rules.{rules}
use Rattle.brackets.proofs.StackLaws.{closers_first}
use Rattle.brackets.proofs.leading_closers.Goals as goal

pub returns : goal.returns
returns c = search (rules, closers_first)
