-- `inner` meets its contract: the invariant is `InInner`, the line is classified up to i, which is in the string inside
-- of `${`; its laws are in proofs/StringLaws.antt.
use Prim.Native.Nat.{◌-◌}
use lib.ListN.{length}
use Rattle.scan.proofs.StringLaws.{InInner}
use Rattle.scan.proofs.inner.Given as goal

abbrev pub invariant-loop-i : goal.invariant-loop-i
invariant-loop-i l = InInner l.line l.at l.k l.initial.class l.class l.i

abbrev pub decreases-loop-i : goal.decreases-loop-i
decreases-loop-i l = length l.line - l.i
