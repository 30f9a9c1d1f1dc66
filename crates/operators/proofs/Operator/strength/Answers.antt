use Rattle.operators.proofs.StrengthLaws.{upper_strength, lower_strength}
use Rattle.operators.proofs.Operator.strength.Goals as goal

pub returns-then-k-eq0 : goal.returns-then-k-eq0
returns-then-k-eq0 c = upper_strength _ _ c.if-k-eq0.true

pub returns-else-k-eq0 : goal.returns-else-k-eq0
returns-else-k-eq0 c = lower_strength _ _ c.if-k-eq0.false
