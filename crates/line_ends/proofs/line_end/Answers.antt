use Rattle.line_ends.proofs.LineCuts.{ending_here, ending_first}
use Rattle.line_ends.proofs.line_end.Goals as goal

pub returns-then-source-at-eq10 : goal.returns-then-source-at-eq10
returns-then-source-at-eq10 c = ending_here _ _ c.if-at-n.true c.if-source-at-eq10.true

pub returns-then-n-ge64 : goal.returns-then-n-ge64
returns-then-n-ge64 c = ending_first _ _ _ c.requires c.first_near.ensures

pub returns-else-n-ge64 : goal.returns-else-n-ge64
returns-else-n-ge64 c = ending_first _ _ _ c.requires c.first.ensures
