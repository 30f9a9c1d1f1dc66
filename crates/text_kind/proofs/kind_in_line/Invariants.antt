-- `text_kind::kind_in_line` meets its contract: the invariant is `Counting`, whose laws are in proofs/KindMarks.antt.
use Rattle.text_kind.proofs.KindMarks.{Counting}
use Rattle.text_kind.proofs.kind_in_line.Given as goal

abbrev pub invariant-loop-i : goal.invariant-loop-i
invariant-loop-i l = Counting l.line l.initial.t l.initial.left l.t l.left l.i
