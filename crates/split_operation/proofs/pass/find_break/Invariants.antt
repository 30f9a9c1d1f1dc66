-- `find_break` meets its contract: the invariant is `Passing` of specs/Pass.antt, what the first i bytes say of
-- brackets and operators; its laws are in proofs/PassLaws.antt and RunLaws.antt.
use Prim.Native.Nat.{◌-◌}
use lib.ListN.{length}
use Rattle.split_operation.specs.Pass.{pass_at, Strong, Passing}
use Rattle.rules.specs.Strengths.{strengths_in}
use Rattle.split_operation.proofs.pass.find_break.Given as goal

abbrev pub invariant-loop-i : goal.invariant-loop-i
invariant-loop-i l = Passing (strengths_in l.table) l.line l.class (pass_at l.s l.depth l.b) l.i × Strong l.b

abbrev pub decreases-loop-i : goal.decreases-loop-i
decreases-loop-i l = length l.line - l.i
