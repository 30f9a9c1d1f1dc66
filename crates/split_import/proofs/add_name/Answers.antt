use borrow.Author.Rules.{rules}
use Rattle.split_import.proofs.NameLaws.{add_first, add_wide, add_here}
use Rattle.split_import.proofs.add_name.Goals as goal

pub returns-then-le : goal.returns-then-le
returns-then-le c = search (rules, add_here)

pub returns-else-le : goal.returns-else-le
returns-else-le c = search (rules, add_wide)

pub returns-in-None : goal.returns-in-None
returns-in-None c = search (rules, add_first)
