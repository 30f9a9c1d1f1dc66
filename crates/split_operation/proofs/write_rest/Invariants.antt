-- `write_rest` meets its contract: the invariant is `Writing`, the pieces before the cut c are written, the last of
-- them up to r; its laws are in proofs/OperationLaws.antt.
use Prim.Native.Nat.{◌-◌}
use lib.ListN.{length}
use Rattle.rules.specs.Lines.{as_str}
use Rattle.rules.specs.Strengths.{strengths_in}
use Rattle.split_operation.proofs.OperationLaws.{Writing}
use Rattle.split_operation.proofs.write_rest.Given as goal

abbrev pub invariant-loop-c : goal.invariant-loop-c
invariant-loop-c l = Writing (strengths_in l.s.strengths.table) l.strength l.line l.class l.initial.c l.indent l.under.level (as_str l.under.ending) l.model l.initial.out l.initial.r l.out l.c l.r

abbrev pub decreases-loop-c : goal.decreases-loop-c
decreases-loop-c l = length l.line - l.c.place
