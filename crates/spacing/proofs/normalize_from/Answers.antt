use Rattle.spacing.proofs.SpacingLaws.{normalized_after}
use Rattle.spacing.proofs.normalize_from.Goals as goal

pub returns : goal.returns
returns c = normalized_after _ _ _ _ _ _ c.put_kept.ensures c.requires.keeping.within _ _ c.respace.ensures
