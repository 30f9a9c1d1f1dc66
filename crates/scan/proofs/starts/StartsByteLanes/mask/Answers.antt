use Prim.Native.Nat.{ℕ}
use native.Mathlib.Omega.{arith}
use Rattle.blocks.proofs.Ones.{equal, either, mask_told}
use Rattle.scan.specs.Stretch.{starts_in_code}
use Rattle.scan.proofs.starts.StartsByteLanes.mask.Goals as goal

pub returns : goal.returns
unfolding starts_in_code
returns g c =
    let v = c.args.v in
    let is = λ (a : ℕ). equal _ a v c.fits-v.0 in
    mask_told _ starts_in_code v (omega arith) c.fits-v.1 (either _ _ v (either _ _ v (either _ _ v (either _ _ v (is 92) (is 34)) (is 39)) (is 47)) (is 36)) tt
