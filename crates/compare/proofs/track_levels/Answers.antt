use borrow.Author.Rules.{rules}
use Rattle.compare.proofs.WriterLaws.{compared_none, compared_short, compared_on, agree_small}
use native.Mathlib.Omega.{arith}
use Rattle.compare.proofs.track_levels.Goals as goal

pub returns-then-cell-lt-CELL : goal.returns-then-cell-lt-CELL
returns-then-cell-lt-CELL c = search (rules, compared_none)

pub returns-then-read_cell-at : goal.returns-then-read_cell-at
returns-then-read_cell-at c = search (rules, compared_short)

pub returns : goal.returns
returns c = search (rules, compared_on)

pub overflow_add-at : goal.overflow_add-at
overflow_add-at c = omega (arith, agree_small _ _ _ c.agree_levels-n.ensures)
