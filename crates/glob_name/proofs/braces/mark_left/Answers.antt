use native.Mathlib.Omega.{arith}
use Rattle.glob_name.proofs.MarkLaws.{left_start, left_more, left_end}
use Rattle.glob_name.proofs.braces.mark_left.Goals as goal

pub loop-k-init : goal.loop-k-init
loop-k-init c = left_start _ _ (omega arith) c.none-open.ensures

pub loop-k-preserved : goal.loop-k-preserved
loop-k-preserved c = left_more _ _ _ _ c.loop-k.invariant (omega arith) _ _ _ _ c.left_event.ensures c.happen-lone.ensures c.marked.ensures

pub returns : goal.returns
returns c = left_end _ _ _ _ c.loop-k.invariant (omega arith)
