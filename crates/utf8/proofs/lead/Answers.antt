use Rattle.utf8.proofs.Bytewise.{lead_by}
use Rattle.utf8.proofs.lead.Goals as goal

pub returns : goal.returns
returns c = lead_by _ _ _ c.is_tail.ensures c.from.ensures
