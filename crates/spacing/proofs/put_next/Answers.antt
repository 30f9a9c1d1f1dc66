use native.Mathlib.Omega.{arith}
use Rattle.rules.specs.Spacing.{put_at}
use Rattle.spacing.proofs.SpacingLaws.{wrote_by}
use Rattle.spacing.proofs.put_next.Goals as goal

pub returns-in-Nothing : goal.returns-in-Nothing
unfolding put_at
returns-in-Nothing c = rw c.in-Nothing.is (wrote_by 2 c.put_plain.ensures (omega arith) c.put_plain.ensures.is)

pub returns-in-Escape : goal.returns-in-Escape
unfolding put_at
returns-in-Escape c = rw c.in-Escape.is (wrote_by 2 c.put.ensures (omega arith) c.put.ensures.is)

pub returns-in-Comma : goal.returns-in-Comma
unfolding put_at
returns-in-Comma c = rw c.in-Comma.is c.put_after_comma.ensures
