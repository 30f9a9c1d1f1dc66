use Rattle.config_read.proofs.LevelLaws.{nearest_is}
use Rattle.config_read.proofs.levels.nearest.Goals as goal

pub returns : goal.returns
returns c = nearest_is _ _ c.level_from.ensures
