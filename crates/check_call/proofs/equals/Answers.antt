use Rattle.check_call.proofs.SameLaws.{equals_told, equals_long}
use borrow.Author.Rules.{rules}
use Rattle.check_call.proofs.equals.Goals as goal

pub returns-then-n-source : goal.returns-then-n-source
returns-then-n-source c = search (rules, equals_told)

pub returns-else-n-source : goal.returns-else-n-source
returns-else-n-source c = search (rules, equals_long)
