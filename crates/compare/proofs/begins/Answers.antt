use Rattle.compare.proofs.WriterLaws.{tells_none, tells_short, tells_cell}
use borrow.Author.Rules.{rules}
use Rattle.compare.proofs.begins.Goals as goal

pub returns-then-model-eq0 : goal.returns-then-model-eq0
returns-then-model-eq0 c = search (rules, tells_none)

pub returns-then-out-lt-CELL : goal.returns-then-out-lt-CELL
returns-then-out-lt-CELL c = search (rules, tells_short)

pub returns : goal.returns
returns c = search (rules, tells_cell)
