-- The invariant is `ColumnScan`, whose laws, one for each way through a turn, are in proofs/Column.antt.
use Rattle.utf8.proofs.Column.{ColumnScan}
use Rattle.utf8.proofs.offset_of.Given as goal

abbrev pub invariant-loop : goal.invariant-loop
invariant-loop l = ColumnScan l.s l.fn.column.0 l.counter l.i
