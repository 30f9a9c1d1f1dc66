use native.Mathlib.Omega.{arith}
use Rattle.scan.proofs.MarkedLaws.{marked_then, marked_less}
use Rattle.scan.proofs.marked.tail.Goals as goal

pub returns-then-n-i-lt4-clause-marked : goal.returns-then-n-i-lt4-clause-marked
returns-then-n-i-lt4-clause-marked g c =
    let f = c.vector-i.ensures.first in
    marked_then (marked_less c.vector-i.ensures.marked _ (omega (arith, f.from)) (omega (arith, f.within)) (omega arith) (omega arith))
    c.singly-then-n-i-lt4.ensures.marked (omega (arith, f.from)) (omega (arith, c.singly-then-n-i-lt4.ensures.first.from))

pub returns-clause-marked : goal.returns-clause-marked
returns-clause-marked g c =
    let f = c.vector-i.ensures.first in
    let h = c.first_in-e.ensures in
    marked_less
    (marked_then (marked_less c.vector-i.ensures.marked _ (omega (arith, f.from, f.within)) (omega arith) (omega arith) (omega arith)) c.block.ensures
    (omega (arith, f.from, f.within)) (omega arith)) _
    (omega (arith, f.from, h.from)) (omega (arith, h.within)) (omega arith) (omega arith)
