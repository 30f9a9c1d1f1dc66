-- `quoted` meets its contract: the invariant is `InQuoted`, the line is classified up to i, which is in the string; its
-- laws are in proofs/StringLaws.antt.
use Prim.Native.Nat.{◌-◌}
use lib.ListN.{length}
use Rattle.scan.proofs.StringLaws.{InQuoted}
use Rattle.scan.proofs.quoted.Given as goal

abbrev pub invariant-loop-i : goal.invariant-loop-i
invariant-loop-i l = InQuoted l.line l.at l.q l.initial.class l.class l.i

abbrev pub decreases-loop-i : goal.decreases-loop-i
decreases-loop-i l = length l.line - l.i
