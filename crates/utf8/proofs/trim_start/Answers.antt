use Rattle.utf8.proofs.TrimScan.{start_past}
use Rattle.utf8.proofs.trim_start.Goals as goal

pub returns : goal.returns
returns c = start_past _ _ _ c.past_spaces.ensures c.past_chars.ensures
