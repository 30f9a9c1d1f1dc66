use native.Mathlib.Omega.{arith}
use Rattle.rules.specs.Spacing.{put_after_comma}
use Rattle.rules.proofs.Choose.{picks}
use Rattle.spacing.proofs.SpacingLaws.{wrote_by, wrote_none}
use Rattle.spacing.proofs.put_after_comma.Goals as goal

pub returns-then-is_code_blank : goal.returns-then-is_code_blank
unfolding put_after_comma
returns-then-is_code_blank c = wrote_none _ _ _ _ (search picks depth 20)

pub returns-then-is_closer : goal.returns-then-is_closer
unfolding put_after_comma
returns-then-is_closer c = wrote_by 2 c.put_plain.ensures (omega arith) (search picks depth 20)

pub returns : goal.returns
unfolding put_after_comma
returns c = wrote_by 2 c.put_apart.ensures (omega arith) (search picks depth 20)
