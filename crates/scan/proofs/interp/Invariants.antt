-- `interp` meets its contract: the invariant is `InInterp`, the line is classified up to i, which is inside of `${`, d
-- braces deep; its laws are in proofs/StringLaws.antt.
use Prim.Native.Nat.{◌-◌}
use lib.ListN.{length}
use Rattle.scan.proofs.StringLaws.{InInterp}
use Rattle.scan.proofs.interp.Given as goal

abbrev pub invariant-loop-i : goal.invariant-loop-i
invariant-loop-i l = InInterp l.line l.at l.initial.class l.class l.i l.d

abbrev pub decreases-loop-i : goal.decreases-loop-i
decreases-loop-i l = length l.line - l.i
