-- `line_column` meets its contract: the invariant is `LineScan`, byte i is at this line and column; its laws are in
-- proofs/ScanLaws.antt.
use borrow.Author.Rules.{rules}
use Rattle.caret.proofs.BlockLaws.{last_well, column_last}
use Rattle.caret.proofs.line_column.Goals as goal

pub char_count-n-requires : goal.char_count-n-requires
char_count-n-requires c = search (rules, last_well)

pub returns : goal.returns
returns c = search (rules, column_last)
