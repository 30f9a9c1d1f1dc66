use mathlib.Core.Bool.{not}
use native.Mathlib.Omega.{arith}
use lib.Dec.{eqb}
use mir.Syntax.{w8}
use Rattle.std.proofs.lemmas.Simd.{bitmask_splat}
use Rattle.blocks.proofs.others.OtherByteLanes.mask.Goals as goal

pub returns : goal.returns
returns g c = bitmask_splat w8 (λ x y. not (eqb x y)) c.args.v _ c.args.self.now.b c.fits-v.0 (omega arith)
