use native.Mathlib.Omega.{arith}
use mathlib.Core.Path.{sym, ◌∙◌}
use Rattle.glob_match.proofs.NameLaws.{slices, rooted_are}
use Rattle.glob_match.proofs.glob_matches.Goals as goal

pub slice_bounds-matches_name-end : goal.slice_bounds-matches_name-end
slice_bounds-matches_name-end c = (slices _ _ _ _ _ c.starts_with_slash-slash.ensures c.first_place-k.ensures c.requires.2 c.decode_into-n.ensures).0

pub slice_bounds-matches_name-end-2 : goal.slice_bounds-matches_name-end-2
slice_bounds-matches_name-end-2 c = (slices _ _ _ _ _ c.starts_with_slash-slash.ensures c.first_place-k.ensures c.requires.2 c.decode_into-n.ensures).1

pub matches_name-requires : goal.matches_name-requires
matches_name-requires c = let r = slices _ _ _ _ _ c.starts_with_slash-slash.ensures c.first_place-k.ensures c.requires.2 c.decode_into-n.ensures in (sym r.1 ∙ r.0, omega (arith, r.0, r.2), omega (arith, r.0, r.3), c.requires.1)

pub returns : goal.returns
returns c = c.matches_name.ensures.is _ (rooted_are _ _ _ _ _ c.starts_with_slash-slash.ensures c.first_place-k.ensures c.decode_into-n.ensures) c.starts_with_slash-slash.ensures
