use Rattle.compare.proofs.CellLaws.{cell_put}
use borrow.Author.Rules.{rules}
use Rattle.compare.proofs.put_cell.Goals as goal

pub returns : goal.returns
returns c = search (rules, cell_put)
