use Prim.Native.Nat.{ℕ}
use native.Mathlib.Omega.{arith}
use Rattle.blocks.proofs.Ones.{equal, either, mask_told}
use Rattle.scan.specs.Stretch.{stops_string}
use Rattle.scan.proofs.starts.StopsByteLanes.mask.Goals as goal

pub returns : goal.returns
unfolding stops_string
returns g c =
    let v = c.args.v in
    let is = λ (a : ℕ). equal _ a v c.fits-v.0 in
    mask_told _ stops_string v (omega arith) c.fits-v.1 (either _ _ v (either _ _ v (either _ _ v (is 92) (is 34)) (is 39)) (is 36)) tt
