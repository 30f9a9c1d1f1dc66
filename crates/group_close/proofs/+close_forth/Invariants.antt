-- `close_forth` meets its contract: the invariant is `Forthing`, what is left of the codes goes on from the stack and
-- the text written so far; its laws are in proofs/ForthLaws.antt.
use Prim.Native.Nat.{◌-◌}
use Rattle.group_close.proofs.ForthLaws.{Forthing}
use Rattle.group_close.proofs.+close_forth.Given as goal

abbrev pub decreases-close_forth : goal.decreases-close_forth
decreases-close_forth l = l.end - l.from.at

abbrev pub invariant-loop-s : goal.invariant-loop-s
invariant-loop-s l = Forthing l.initial.scratch l.scratch l.initial.out l.out l.end l.initial.s l.s

abbrev pub decreases-loop-s : goal.decreases-loop-s
decreases-loop-s l = l.end - l.s.at
