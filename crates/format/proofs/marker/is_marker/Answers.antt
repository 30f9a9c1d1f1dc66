use borrow.Author.Rules.{rules}
use Rattle.format.proofs.MarkerLaws.{marker_no, slashes_long, slashes_well, marker_rest}
use Rattle.format.proofs.marker.is_marker.Goals as goal

-- first, so that a wrong word is refused for what it gives before it is refused for where it starts
pub returns-then-starts_with : goal.returns-then-starts_with
returns-then-starts_with c = search (rules, marker_rest)

pub slice_bounds-is_marker_word-count : goal.slice_bounds-is_marker_word-count
slice_bounds-is_marker_word-count c = search (rules, slashes_long)

pub slice_bounds-is_marker_word-start : goal.slice_bounds-is_marker_word-start
slice_bounds-is_marker_word-start c = search (rules, slashes_long)

pub is_marker_word-requires : goal.is_marker_word-requires
is_marker_word-requires c = search (rules, slashes_well)

pub returns-else-starts_with : goal.returns-else-starts_with
returns-else-starts_with c = search (rules, marker_no)
