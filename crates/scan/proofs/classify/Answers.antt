use native.Mathlib.Omega.{arith}
use Rattle.scan.proofs.ClassifyLaws.{reached_start, reached_more, reached_end}
use Rattle.scan.proofs.classify.Goals as goal

pub loop-i-init : goal.loop-i-init
loop-i-init c = reached_start _ _ _

pub stretch-stop-requires : goal.stretch-stop-requires
stretch-stop-requires c = record { inside = omega arith; room = omega arith; few = omega arith }

pub loop-i-smaller : goal.loop-i-smaller
loop-i-smaller c = omega arith

pub loop-i-preserved : goal.loop-i-preserved
loop-i-preserved c = reached_more c.loop-i.invariant c.stretch-stop.ensures

pub shape_of-class : goal.shape_of-class
shape_of-class c = c.loop-i.invariant.scanned.moved.as_long

pub returns : goal.returns
returns c = reached_end c.loop-i.invariant (omega arith)
