use native.Mathlib.Omega.{arith}
use Rattle.scan.proofs.StringLaws.{inner_begins, inner_escapes, inner_ends, inner_goes_on, inner_stops}
use Rattle.scan.proofs.inner.Goals as goal

pub loop-i-init : goal.loop-i-init
loop-i-init c = inner_begins _ _ _ _ (omega arith)

pub bounds-line-i : goal.bounds-line-i
bounds-line-i c = omega arith

pub pair-i-requires : goal.pair-i-requires
pair-i-requires c = record { inside = omega arith; room = omega arith }

pub loop-i-smaller-then-b-eq92 : goal.loop-i-smaller-then-b-eq92
loop-i-smaller-then-b-eq92 c = omega arith

pub loop-i-preserved-then-b-eq92 : goal.loop-i-preserved-then-b-eq92
loop-i-preserved-then-b-eq92 c = inner_escapes c.loop-i.invariant (omega arith) c.if-b-eq92.true c.pair-i.ensures

pub bounds-class-i : goal.bounds-class-i
bounds-class-i c = omega arith

pub overflow_add-i : goal.overflow_add-i
overflow_add-i c = omega arith

pub shape_of-class-then-b-end : goal.shape_of-class-then-b-end
shape_of-class-then-b-end c = (inner_ends c.loop-i.invariant (omega arith) (omega arith) c.if-b-eq92.false c.quote_of-end.ensures c.if-b-end.true).moved.as_long

pub returns-then-b-end : goal.returns-then-b-end
returns-then-b-end c = inner_ends c.loop-i.invariant (omega arith) (omega arith) c.if-b-eq92.false c.quote_of-end.ensures c.if-b-end.true

pub loop-i-smaller : goal.loop-i-smaller
loop-i-smaller c = omega arith

pub loop-i-preserved : goal.loop-i-preserved
loop-i-preserved c = inner_goes_on c.loop-i.invariant (omega arith) (omega arith) c.if-b-eq92.false c.quote_of-end.ensures c.if-b-end.false

pub shape_of-class : goal.shape_of-class
shape_of-class c = c.loop-i.invariant.moved.as_long

pub returns : goal.returns
returns c = inner_stops c.loop-i.invariant (omega arith)
