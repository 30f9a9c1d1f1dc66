-- `kinds_in_line` meets its contract: the invariant is `InLine`, the line is read up to i, which is at this column, and
-- the entries before `next` have their kinds; its laws are in proofs/LineLaws.antt.
use Rattle.text_kinds.proofs.LineLaws.{InLine}
use Rattle.text_kinds.proofs.kinds_in_line.Given as goal

abbrev pub invariant-loop-i : goal.invariant-loop-i
invariant-loop-i l = InLine l.line l.initial.t l.number l.places l.initial.next l.initial.kinds l.t l.next l.column l.i l.kinds
