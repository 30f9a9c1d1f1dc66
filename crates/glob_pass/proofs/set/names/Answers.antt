use borrow.Author.Rules.{rules}
use Rattle.glob_pass.proofs.SetLaws.{naming_start, naming_close, naming_hit, naming_more, naming_end}
use Rattle.glob_pass.proofs.set.names.Goals as goal

pub loop-d-init : goal.loop-d-init
loop-d-init c = search (rules, naming_start)

pub returns-then-ends_set : goal.returns-then-ends_set
returns-then-ends_set c = search (rules, naming_close)

pub returns-then-names_at : goal.returns-then-names_at
returns-then-names_at c = search (rules, naming_hit)

pub loop-d-preserved : goal.loop-d-preserved
loop-d-preserved c = search (rules, naming_more)

pub returns : goal.returns
returns c = search (rules, naming_end)
