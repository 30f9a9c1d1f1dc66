use native.Mathlib.Omega.{arith}
use mathlib.Core.List.{◌∷◌, []}
use mathlib.Core.Path.{◌≡◌}
use lib.ListN.{length}
use Rattle.scan.proofs.StartsLaws.{told, starts_reach}
use Rattle.scan.proofs.CodeLaws.{prefab_begins, prefab_ends, prefab_goes_on, prefab_stops}
use Rattle.scan.proofs.prefab.Goals as goal

pub loop-i-init : goal.loop-i-init
loop-i-init c = prefab_begins _ _ _ (omega arith)

pub overflow_add-e : goal.overflow_add-e
overflow_add-e c = omega arith

pub slice_bounds-fill-end : goal.slice_bounds-fill-end
slice_bounds-fill-end c = omega (arith, starts_reach c.args.line.now c.loop-i.i 96 (96 ∷ 96 ∷ []) (told c.fence_at.ensures c.if-fence_at.true))

pub shape_of-class-then-fence_at : goal.shape_of-class-then-fence_at
shape_of-class-then-fence_at c = (prefab_ends c.loop-i.invariant _ (omega arith) (told c.fence_at.ensures c.if-fence_at.true) c.fill.ensures).scanned.moved.as_long

pub returns-then-fence_at : goal.returns-then-fence_at
returns-then-fence_at c = prefab_ends c.loop-i.invariant _ (omega arith) (told c.fence_at.ensures c.if-fence_at.true) c.fill.ensures

pub bounds-class-i : goal.bounds-class-i
bounds-class-i c = omega arith

pub loop-i-preserved : goal.loop-i-preserved
loop-i-preserved c = prefab_goes_on c.loop-i.invariant (omega arith) (omega arith) (told c.fence_at.ensures c.if-fence_at.false)

pub shape_of-class : goal.shape_of-class
shape_of-class c = c.loop-i.invariant.scanned.moved.as_long

pub returns : goal.returns
returns c = let e : c.loop-i.i ≡ length c.args.line.now = omega arith in rw e at (prefab_stops c.loop-i.invariant (omega arith) (omega arith))
