use Rattle.place.proofs.PlaceLaws.{level_small}
use Rattle.place.proofs.LayLaws.{lay_done}
use borrow.Author.Rules.{rules}
use Rattle.place.proofs.lay_line.Goals as goal

pub fit_line-requires : goal.fit_line-requires
fit_line-requires c =
    record { level_le_max_source = level_small _ _ _ c.level_of.ensures c.requires.asks.few; goes_on = search rules; ordered = (search rules, search rules) }

pub returns : goal.returns
returns c =
    lay_done _ _ _ _ _ _ _ _ _ _ _ _ _ c.requires.goes_on c.requires.heads
    c.continues-continued.ensures c.level_of.ensures c.drops_blank.ensures
    c.break_width.ensures c.fit_line.ensures
