use mathlib.Core.Path.{◌∙◌}
use Rattle.marks.proofs.NextLaws.{next_more}
use Rattle.marks.proofs.next_mark.Goals as goal

pub returns-then-t-eq0 : goal.returns-then-t-eq0
returns-then-t-eq0 c = rw c.if-t-eq0.true c.mark_at.ensures

pub returns-else-t-eq0 : goal.returns-else-t-eq0
returns-else-t-eq0 c = c.long.ensures ∙ next_more c.args.t c.args.s.now c.if-t-eq0.false
