use mathlib.Core.Path.{refl}
use native.Mathlib.Omega.{arith}
use Rattle.changes.proofs.PassLaws.{run_turn}
use Rattle.changes.proofs.same_run.Goals as goal

pub overflow_add-k : goal.overflow_add-k
overflow_add-k c = let t = c.in-Some.ensures.some _ refl in omega (arith, t.1.fits_source)

pub loop-n-smaller : goal.loop-n-smaller
loop-n-smaller c = let t = c.in-Some.ensures.some _ refl in omega (arith, t.0, t.1.fits_source)

pub loop-n-preserved : goal.loop-n-preserved
loop-n-preserved c = run_turn _ _ _ _ _ _ _ c.loop-n.invariant c.in-Some.ensures refl
