use native.Mathlib.Omega.{arith}
use Rattle.brackets.proofs.StackLaws.{scanning_start, idle_skip, scan_more, scan_end}
use Rattle.brackets.proofs.scan.Goals as goal

pub loop-i-init : goal.loop-i-init
loop-i-init g c = scanning_start _ _ _ _ _ c.requires

pub loop-i-preserved-then-is_idle : goal.loop-i-preserved-then-is_idle
loop-i-preserved-then-is_idle g c = idle_skip _ _ _ _ _ c.requires _ _ _ c.loop-i.invariant _ _ c.loop-i-test.true c.is_idle.ensures c.if-is_idle.true c.past_idle-i.ensures

pub loop-i-preserved : goal.loop-i-preserved
loop-i-preserved g c = scan_more _ _ _ _ _ c.requires _ _ _ c.loop-i.invariant _ _ c.loop-i-test.true c.bracket_step-t.ensures

pub returns : goal.returns
returns g c = scan_end _ _ _ _ _ c.requires _ _ _ c.loop-i.invariant (omega arith)
