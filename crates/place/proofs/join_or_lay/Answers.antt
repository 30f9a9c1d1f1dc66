use Rattle.place.proofs.LayLaws.{join_put, not_joined}
use Rattle.place.proofs.join_or_lay.Goals as goal

pub returns-then-joins_newest : goal.returns-then-joins_newest
returns-then-joins_newest c =
    join_put _ _ _ _ _ _ _ _ c.joins_newest.ensures _ _ _ c.requires.goes_on c.join_one.ensures c.alone.ensures c.if-joins_newest.true

pub returns-else-joins_newest : goal.returns-else-joins_newest
returns-else-joins_newest c =
    not_joined _ _ _ _ _ _ _ _ c.joins_newest.ensures _ c.lay_line.ensures c.if-joins_newest.false
