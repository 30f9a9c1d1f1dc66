use Prim.Native.Nat.{ℕ}
use native.Mathlib.Omega.{arith}
use Rattle.blocks.proofs.Ones.{equal, either, mask_told}
use Rattle.scan.specs.Stretch.{turns_comment}
use Rattle.scan.proofs.starts.TurnsByteLanes.mask.Goals as goal

pub returns : goal.returns
returns g c =
    let v = c.args.v in
    let is = λ (a : ℕ). equal _ a v c.fits-v.0 in
    mask_told _ turns_comment v (omega arith) c.fits-v.1 (either _ _ v (is 47) (is 42)) tt
