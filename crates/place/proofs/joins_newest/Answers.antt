use mathlib.Core.Path.{◌∙◌}
use Rattle.place.proofs.LayLaws.{both, not_first}
use Rattle.place.proofs.joins_newest.Goals as goal

pub returns-then-is_plain_else : goal.returns-then-is_plain_else
returns-then-is_plain_else c =
    both _ _ _ _ c.is_plain_else.ensures c.if-is_plain_else.true c.is_joinable.ensures

pub returns-else-is_plain_else : goal.returns-else-is_plain_else
returns-else-is_plain_else c = c.if-is_plain_else.false ∙ not_first _ _ _ c.is_plain_else.ensures c.if-is_plain_else.false
