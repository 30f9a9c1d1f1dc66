-- `next_op` meets its contract: the invariant is `Seeking` of specs/Pass.antt, no operator of the strength stands from
-- `from` up to i; its laws are in proofs/PassLaws.antt and RunLaws.antt.
use Prim.Native.Nat.{◌-◌}
use lib.ListN.{length}
use Rattle.split_operation.specs.Pass.{Seeking}
use Rattle.rules.specs.Strengths.{strengths_in}
use Rattle.split_operation.proofs.pass.next_op.Given as goal

abbrev pub invariant-loop-i : goal.invariant-loop-i
invariant-loop-i l = Seeking (strengths_in l.table) l.strength l.line l.class l.from l.initial.s l.s l.i

abbrev pub decreases-loop-i : goal.decreases-loop-i
decreases-loop-i l = length l.line - l.i
