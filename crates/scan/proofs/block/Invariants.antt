-- `block` meets its contract: the invariant is `InBlock`, the line is classified up to i, where d block comments are
-- open; its laws are in proofs/CodeLaws.antt.
use Prim.Native.Nat.{◌-◌}
use lib.ListN.{length}
use Rattle.scan.proofs.CodeLaws.{InBlock}
use Rattle.scan.proofs.block.Given as goal

abbrev pub invariant-loop-i : goal.invariant-loop-i
invariant-loop-i l = InBlock l.line l.at l.depth l.initial.class l.class l.i l.d

abbrev pub decreases-loop-i : goal.decreases-loop-i
decreases-loop-i l = length l.line - l.i
