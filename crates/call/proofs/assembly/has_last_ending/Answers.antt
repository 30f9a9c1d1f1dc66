use borrow.Author.Rules.{rules}
use Rattle.call.proofs.CallLaws.{last_source, last_always, last_never}
use Rattle.call.proofs.assembly.has_last_ending.Goals as goal

pub returns-in-AsSource : goal.returns-in-AsSource
returns-in-AsSource c = search (rules, last_source)

pub returns-in-Always : goal.returns-in-Always
returns-in-Always c = search (rules, last_always)

pub returns-in-Never : goal.returns-in-Never
returns-in-Never c = search (rules, last_never)
