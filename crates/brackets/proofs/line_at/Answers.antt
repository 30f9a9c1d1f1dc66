use Rattle.rules.proofs.Choose.{picks}
use Rattle.brackets.proofs.line_at.Goals as goal

-- first, so that a wrong place is refused for what stands there
pub returns-then-i-depth : goal.returns-then-i-depth
returns-then-i-depth c = search picks depth 20

pub returns : goal.returns
returns c = search picks depth 20
