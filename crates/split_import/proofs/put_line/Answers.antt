use borrow.Author.Rules.{rules}
use Rattle.split_import.proofs.NameLaws.{comma_room}
use Rattle.split_import.proofs.put_line.Goals as goal

pub append-requires : goal.append-requires
append-requires c = search (rules, comma_room)
