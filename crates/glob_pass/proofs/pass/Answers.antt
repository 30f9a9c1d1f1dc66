use native.Mathlib.Omega.{arith}
use mathlib.Core.Path.{refl}
use Rattle.glob_pass.proofs.PassLaws.{going_start, passed_set, going_end, going_token}
use Rattle.glob_pass.proofs.pass.Goals as goal

pub loop-p-init : goal.loop-p-init
loop-p-init c = going_start _ _ _ _ _ _ c.args.v.now _ c.args.name.same (omega arith) (omega arith) refl

pub loop-p-preserved : goal.loop-p-preserved
loop-p-preserved c = going_token _ _ _ _ _ _ _ _ _ _ _ c.loop-p.invariant c.loop-p-test.true _ _ _ c.value_at-next.ensures

pub returns : goal.returns
returns c = passed_set _ _ _ _ _ _ _ (going_end _ _ _ _ _ _ _ _ _ _ _ c.loop-p.invariant (omega arith))
