use borrow.Author.Rules.{rules}
use native.Mathlib.Omega.{arith}
use Rattle.replay_run.proofs.RunLaws.{replaying_start, replaying_ready, replaying_more, replaying_end}
use Rattle.replay_run.proofs.replay.Goals as goal

pub loop-p-init : goal.loop-p-init
loop-p-init g c = replaying_start _ _ _

pub step-p-requires : goal.step-p-requires
step-p-requires g c = replaying_ready c.loop-p.invariant c.requires c.loop-p-test.true

pub loop-p-smaller : goal.loop-p-smaller
loop-p-smaller g c = omega (arith, c.step-p.ensures.on, c.loop-p-test.true)

pub loop-p-preserved : goal.loop-p-preserved
loop-p-preserved g c = replaying_more c.loop-p.invariant c.loop-p-test.true _ c.step-p.ensures _ _ (search rules) (search rules)

pub returns : goal.returns
returns g c = replaying_end c.loop-p.invariant c.loop-p-test.false
