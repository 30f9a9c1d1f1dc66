use native.Mathlib.Omega.{arith}
use Rattle.blocks.proofs.Ones.{equal, mask_told}
use Rattle.line_ends.specs.LineEnds.{is_lf}
use Rattle.line_ends.proofs.feeds.LineFeedByteLanes.mask.Goals as goal

pub returns : goal.returns
returns g c = mask_told _ is_lf c.args.v (omega arith) c.fits-v.1 (equal _ 10 c.args.v c.fits-v.0) tt
