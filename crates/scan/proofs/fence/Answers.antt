use native.Mathlib.Omega.{arith}
use Prim.Native.Nat.{◌+◌}
use mathlib.Core.List.{◌∷◌, []}
use Rattle.scan.proofs.StartsLaws.{told, starts_reach}
use Rattle.scan.proofs.CodeLaws.{fence_opens, fence_code}
use Rattle.scan.proofs.fence.Goals as goal

pub slice_bounds-fill-end : goal.slice_bounds-fill-end
slice_bounds-fill-end c = omega (arith, starts_reach c.args.line.now (c.args.at + 1) 96 (96 ∷ 96 ∷ []) (told c.fence_at.ensures c.if-fence_at.true))

pub returns-then-fence_at : goal.returns-then-fence_at
returns-then-fence_at c = fence_opens _ _ _ (omega arith) (omega arith) c.requires.byte _ (told c.fence_at.ensures c.if-fence_at.true) c.fill.ensures

pub returns : goal.returns
returns c = fence_code _ _ _ (omega arith) (omega arith) c.requires.byte (told c.fence_at.ensures c.if-fence_at.false)
