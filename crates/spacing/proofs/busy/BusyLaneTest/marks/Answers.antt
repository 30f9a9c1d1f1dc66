use Prim.Native.Nat.{ℕ, ◌+◌}
use mathlib.Core.Bool.{Bool, true, false, cond, ◌&&◌, ◌||◌}
use mathlib.Core.Path.{◌≡◌, refl}
use native.Mathlib.Omega.{arith}
use lib.Bits.{bit_and, bit_or}
use lib.Dec.{eqb}
use lib.Lanes.{top}
use lib.ListN.{get_or}
use Rattle.std.proofs.lemmas.List.FromFn.{length-range_with_len}
use Rattle.std.proofs.lemmas.Simd.{zip2_of_maps}
use Rattle.blocks.proofs.Marks.{bytes_at, marks_by}
use Rattle.blocks.proofs.Ones.{same, with_splat, either}
use Rattle.spacing.specs.Respaced.{busy_at}
use Rattle.spacing.proofs.busy.BusyLaneTest.marks.Goals as goal

told : (p q r s : Bool) → top 7 (bit_or (bit_or (cond p 255 0) (cond q 255 0)) (bit_and (cond r 255 0) (cond s 255 0))) ≡ (p || q || (r && s))
told true true true true = refl
told true true true false = refl
told true true false true = refl
told true true false false = refl
told true false true true = refl
told true false true false = refl
told true false false true = refl
told true false false false = refl
told false true true true = refl
told false true true false = refl
told false true false true = refl
told false true false false = refl
told false false true true = refl
told false false true false = refl
told false false false true = refl
told false false false false = refl

pub returns : goal.returns
returns g c =
    let s = c.args.self.now.line.now in
    let l = length-range_with_len c.args.i g.row.N in
    let z : c.args.i + 0 ≡ c.args.i = omega arith in
    let x = rw z at (bytes_at s c.args.i 0 g.row.N (omega arith)) in
    let y = bytes_at s c.args.i 1 g.row.N (omega arith) in
    let is = λ (a : ℕ). with_splat same _ g.row.N a _ l x in
    marks_by _ (busy_at s) c.args.i g.row.N (omega arith)
    (either _ _ _ (either _ _ _ (is 44) (is 92)) (zip2_of_maps bit_and _ _ _ (is 32) (with_splat same _ g.row.N 32 _ l y)))
    (λ k. let o : k + 0 ≡ k = omega arith in rw o (told (eqb (get_or s k 0) 44) (eqb (get_or s k 0) 92) (eqb (get_or s k 0) 32) (eqb (get_or s (k + 1) 0) 32)))
