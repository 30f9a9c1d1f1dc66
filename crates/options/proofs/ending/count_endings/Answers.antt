use Rattle.std.proofs.Common.{rules}
use Rattle.options.proofs.EndingLaws.{counted_other, counted_lf, counted_crlf}
use Rattle.options.proofs.ending.count_endings.Goals as goal
use Rattle.options.proofs.ending.count_endings.Goals.{then-b-eq10+then-before-eq13, then-b-eq10+else-before-eq13, else-b-eq10}

pub loop-b-preserved : goal.loop-b-preserved
loop-b-preserved c =
    elim c.if-b-eq10.branch [
      | then-b-eq10+then-before-eq13 w ↦ rw (w.lf-is, w.crlf-is, w.before-is) (search (rules, counted_crlf))
      | then-b-eq10+else-before-eq13 w ↦ rw (w.lf-is, w.crlf-is, w.before-is) (search (rules, counted_lf))
      | else-b-eq10 w ↦ rw (w.lf-is, w.crlf-is, w.before-is) (search (rules, counted_other))
    ]
