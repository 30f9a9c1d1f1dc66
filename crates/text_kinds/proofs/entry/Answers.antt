use borrow.Author.Rules.{rules}
use Rattle.text_kinds.proofs.PlaceLaws.{entry_there, entry_past}
use Rattle.text_kinds.proofs.entry.Goals as goal

pub returns-then-k-places : goal.returns-then-k-places
returns-then-k-places c = search (rules, entry_there)

pub returns-else-k-places : goal.returns-else-k-places
returns-else-k-places c = search (rules, entry_past)
