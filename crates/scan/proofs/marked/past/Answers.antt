use native.Mathlib.Omega.{arith}
use Rattle.scan.proofs.MarkedLaws.{marked_then, marked_less, first_past, first_then}
use Rattle.scan.proofs.marked.past.Goals as goal

pub returns-then-e-i-clause-marked : goal.returns-then-e-i-clause-marked
returns-then-e-i-clause-marked g c =
    marked_then c.loop-i.invariant.1
    (marked_less c.vector-e.ensures.marked _ (omega (arith, c.vector-e.ensures.first.from)) (omega arith) (omega arith) (omega arith))
    (omega (arith, c.loop-i.invariant.0.from)) (omega (arith, c.vector-e.ensures.first.from))

pub loop-i-preserved : goal.loop-i-preserved
loop-i-preserved g c =
    let f = c.vector-e.ensures.first in (
      first_then c.loop-i.invariant.0 (first_past f (omega arith)),
      marked_then c.loop-i.invariant.1 (marked_less c.vector-e.ensures.marked _ (omega (arith, f.from)) (omega (arith, f.within)) (omega arith) (omega arith))
          (omega (arith, c.loop-i.invariant.0.from)) (omega (arith, f.from)),
      omega (arith, f.within),
    )

pub returns-clause-marked : goal.returns-clause-marked
returns-clause-marked g c =
    marked_then c.loop-i.invariant.1 c.tail.ensures.marked (omega (arith, c.loop-i.invariant.0.from)) (omega (arith, c.tail.ensures.first.from))
