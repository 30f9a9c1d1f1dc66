use Rattle.spacing.proofs.SpacingLaws.{put_over}
use Rattle.spacing.proofs.put_kept.Goals as goal

pub returns : goal.returns
returns c = put_over _ _ _ _ c.requires.0 c.requires.1 c.put_line.ensures.is
