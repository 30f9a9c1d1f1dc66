use native.Mathlib.Omega.{arith}
use Rattle.glob_name.proofs.MarkLaws.{right_start, right_more, right_end}
use Rattle.glob_name.proofs.braces.mark_right.Goals as goal

pub loop-p-init : goal.loop-p-init
loop-p-init c = right_start _ _ (omega arith) c.none-open.ensures

pub loop-p-preserved : goal.loop-p-preserved
loop-p-preserved c = right_more _ _ _ _ c.loop-p.invariant c.loop-p-test.true _ _ _ _ c.right_event.ensures c.happen-lone.ensures c.marked.ensures

pub returns : goal.returns
returns c = right_end _ _ _ _ c.loop-p.invariant (omega arith)
