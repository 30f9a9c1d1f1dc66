use borrow.Author.Rules.{rules}
use Rattle.format.proofs.ElseLaws.{front_long}
use Rattle.format.proofs.MarkerLaws.{trimmed_well, marker_word}
use Rattle.format.proofs.marker.is_marker_word.Goals as goal

pub trim_end-requires : goal.trim_end-requires
trim_end-requires c = search (rules, trimmed_well)

pub slice_bounds-eq-end : goal.slice_bounds-eq-end
slice_bounds-eq-end c = front_long _ _ c.trim_end.ensures.fits

pub returns : goal.returns
returns c = search (rules, marker_word)
