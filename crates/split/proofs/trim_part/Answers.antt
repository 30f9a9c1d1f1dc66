use Rattle.split.proofs.MeasureLaws.{trimmed_part}
use Rattle.split.proofs.trim_part.Goals as goal

pub returns : goal.returns
returns c = trimmed_part _ _ _ _ _ c.requires c.trim_start-n.ensures c.trim_end-m.ensures
