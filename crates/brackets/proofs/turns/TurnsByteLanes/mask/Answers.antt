use Prim.Native.Nat.{◌+◌, ◌-◌, ◌%◌}
use mathlib.Core.Bool.{cond}
use native.Mathlib.Omega.{arith}
use lib.Bits.{bit_or}
use lib.Dec.{ltb}
use Rattle.std.proofs.lemmas.Simd.{zip2_splat}
use Rattle.blocks.proofs.Ones.{same, with_splat, either, mask_told}
use Rattle.brackets.specs.Stack.{may_turn}
use Rattle.brackets.proofs.turns.TurnsByteLanes.mask.Goals as goal

pub returns : goal.returns
unfolding may_turn
returns g c =
    let v = c.args.v in
    let l = c.fits-v.0 in
    let low = with_splat (λ a b. (a + (256 - b)) % 256) _ _ 123 v l (zip2_splat bit_or v _ 32 l) in
    let folded = with_splat (λ a b. cond (ltb a b) 255 0) _ _ 3 v l low in
    let round = with_splat same _ _ 41 v l (zip2_splat bit_or v _ 1 l) in
    mask_told _ may_turn v (omega arith) c.fits-v.1 (either _ _ v folded round) tt
