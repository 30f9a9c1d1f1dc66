use native.Mathlib.Omega.{arith}
use Rattle.rules.specs.Spacing.{put_at}
use Rattle.rules.proofs.Choose.{picks}
use Rattle.spacing.proofs.SpacingLaws.{wrote_by, wrote_none}
use Rattle.spacing.proofs.put_after_space.Goals as goal

pub returns-then-c-eq32 : goal.returns-then-c-eq32
unfolding put_at
returns-then-c-eq32 c = wrote_none _ _ _ _ (search picks depth 20)

pub returns : goal.returns
unfolding put_at
returns c = wrote_by 2 c.put_plain.ensures (omega arith) (search picks depth 20)
