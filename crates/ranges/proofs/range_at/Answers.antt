use Rattle.std.proofs.lemmas.Option.{MatchOption-at_some}
use Rattle.glob_name.specs.Read.{NumberAt}
use Rattle.ranges.proofs.EndLaws.{first_here, second_here, second_inside, range_is}
use Rattle.ranges.proofs.range_at.Goals as goal

pub unwrap-m-requires : goal.unwrap-m-requires
unwrap-m-requires c = first_here _ _ c.requires.0 _ c.number_len.ensures

pub number_len-requires-2 : goal.number_len-requires-2
number_len-requires-2 c =
    second_inside _ _ _ c.requires.0 (MatchOption-at_some _ (NumberAt _ _) _ c.unwrap-m.ensures c.number_len.ensures)

pub unwrap-n-requires : goal.unwrap-n-requires
unwrap-n-requires c =
    second_here _ _ _ c.requires.0 (MatchOption-at_some _ (NumberAt _ _) _ c.unwrap-m.ensures c.number_len.ensures) _ c.number_len-2.ensures

pub returns : goal.returns
returns c =
    range_is _ _ _ _ _ _ c.requires.0 (MatchOption-at_some _ (NumberAt _ _) _ c.unwrap-m.ensures c.number_len.ensures) c.end_at-first.ensures
    (MatchOption-at_some _ (NumberAt _ _) _ c.unwrap-n.ensures c.number_len-2.ensures) c.end_at-second.ensures _ (rw (c.max-2.ensures, c.max.ensures))
