use Rattle.config_text.proofs.WalkLaws.{lines_unmarked}
use Rattle.config_text.proofs.walk.Lines.of.Goals as goal

pub returns : goal.returns
returns c = record { well = c.unmarked.ensures.well; is = lines_unmarked _ _ c.unmarked.ensures }
