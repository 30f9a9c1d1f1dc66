use Rattle.line.proofs.HoldsLaws.{prev_by}
use Rattle.line.proofs.formatter.prev_of.Goals as goal

pub returns : goal.returns
returns c =
    prev_by _ _ _ c.declaration_of.ensures c.ends_in_brace.ensures
