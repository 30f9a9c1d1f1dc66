use Rattle.glob_match.proofs.NameLaws.{name_is}
use Rattle.glob_match.proofs.matches_name.Goals as goal

pub returns : goal.returns
returns c = name_is _ _ _ _ _ _ c.kinds_of.ensures c.has_slash-own.ensures c.matches_at.ensures
