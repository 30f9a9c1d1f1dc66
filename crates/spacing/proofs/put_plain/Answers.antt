use native.Mathlib.Omega.{arith}
use Rattle.rules.specs.Spacing.{put_plain}
use Rattle.rules.proofs.Choose.{picks}
use Rattle.basics.proofs.ClassPicks.{class-picks}
use Rattle.spacing.proofs.SpacingLaws.{wrote_by, wrote_trimmed}
use Rattle.spacing.proofs.put_plain.Goals as goal

pub returns-then-k-ne-CODE : goal.returns-then-k-ne-CODE
unfolding put_plain
returns-then-k-ne-CODE c = wrote_by 1 c.put.ensures (omega arith) (search (picks, class-picks) depth 20)

pub returns-then-c-eq92 : goal.returns-then-c-eq92
unfolding put_plain
returns-then-c-eq92 c = wrote_by 1 c.put-then-c-eq92.ensures (omega arith) (search (picks, class-picks) depth 20)

pub returns-then-c-eq44 : goal.returns-then-c-eq44
unfolding put_plain
returns-then-c-eq44 c = let w = wrote_trimmed _ _ c.requires c.trim_blanks-m.ensures c.put-then-c-eq44.ensures in wrote_by 1 w (omega arith) (search (picks, class-picks) depth 20)

pub returns-then-c-eq32 : goal.returns-then-c-eq32
unfolding put_plain
returns-then-c-eq32 c = wrote_by 1 c.put-then-c-eq32.ensures (omega arith) (search (picks, class-picks) depth 20)

pub returns : goal.returns
unfolding put_plain
returns c = wrote_by 1 c.put-2.ensures (omega arith) (search (picks, class-picks) depth 20)
