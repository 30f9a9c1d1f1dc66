use Rattle.spacing.proofs.KeptLaws.{keeping_start}
use Rattle.spacing.proofs.normalize_spacing.Goals as goal

pub normalize_from-requires-clause-keeping : goal.normalize_from-requires-clause-keeping
normalize_from-requires-clause-keeping c = keeping_start _ _
