use borrow.Author.Rules.{rules}
use Rattle.split.proofs.MeasureLaws.{byte_tab, byte_other}
use Rattle.split.proofs.column_after.Goals as goal

pub returns-then-b-eq9 : goal.returns-then-b-eq9
returns-then-b-eq9 c = search (rules, byte_tab)

pub returns-else-b-eq9 : goal.returns-else-b-eq9
returns-else-b-eq9 c = search (rules, byte_other)
