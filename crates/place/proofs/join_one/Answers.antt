use Rattle.place.proofs.PlaceLaws.{else_goes}
use borrow.Author.Rules.{rules}
use Rattle.place.proofs.join_one.Goals as goal

pub join_else-requires : goal.join_else-requires
join_else-requires c = record { else_line = search (rules, else_goes); cut_le_at = search rules; line_bound = search rules }
