use native.Mathlib.Omega.{arith}
use Rattle.scan.proofs.StringLaws.{interp_begins, interp_escapes, interp_doubles, interp_singles, interp_opens, interp_ends, interp_closes, interp_goes_on, interp_stops}
use lib.ListN.{length-set}
use Rattle.scan.proofs.interp.Goals as goal

pub loop-i-init : goal.loop-i-init
loop-i-init c = interp_begins _ _ _ (omega arith)

pub bounds-line-i : goal.bounds-line-i
bounds-line-i c = omega arith

pub pair-i-requires : goal.pair-i-requires
pair-i-requires c = record { inside = omega arith; room = omega arith }

pub loop-i-smaller-then-b-eq92 : goal.loop-i-smaller-then-b-eq92
loop-i-smaller-then-b-eq92 c = omega arith

pub loop-i-preserved-then-b-eq92 : goal.loop-i-preserved-then-b-eq92
loop-i-preserved-then-b-eq92 c = interp_escapes c.loop-i.invariant (omega arith) c.if-b-eq92.true c.pair-i.ensures

pub bounds-class-i : goal.bounds-class-i
bounds-class-i c = omega arith

pub overflow_add-i : goal.overflow_add-i
overflow_add-i c = omega arith

pub inner-i-requires : goal.inner-i-requires
inner-i-requires c = record { within = omega arith; room = simp length-set (omega arith) }

pub loop-i-smaller-then-b-eq34 : goal.loop-i-smaller-then-b-eq34
loop-i-smaller-then-b-eq34 c = omega arith

pub loop-i-preserved-then-b-eq34 : goal.loop-i-preserved-then-b-eq34
loop-i-preserved-then-b-eq34 c = interp_doubles c.loop-i.invariant (omega arith) (omega arith) c.if-b-eq92.false c.if-b-eq34.true c.inner-i.ensures

pub inner-i-requires-then-b-eq39 : goal.inner-i-requires-then-b-eq39
inner-i-requires-then-b-eq39 c = record { within = omega arith; room = simp length-set (omega arith) }

pub loop-i-smaller-then-b-eq39 : goal.loop-i-smaller-then-b-eq39
loop-i-smaller-then-b-eq39 c = omega arith

pub loop-i-preserved-then-b-eq39 : goal.loop-i-preserved-then-b-eq39
loop-i-preserved-then-b-eq39 c = interp_singles c.loop-i.invariant (omega arith) (omega arith) c.if-b-eq92.false c.if-b-eq34.false c.if-b-eq39.true c.inner-i-then-b-eq39.ensures

pub overflow_add-d : goal.overflow_add-d
overflow_add-d c = omega arith

pub loop-i-smaller-then-b-eq123 : goal.loop-i-smaller-then-b-eq123
loop-i-smaller-then-b-eq123 c = omega arith

pub loop-i-preserved-then-b-eq123 : goal.loop-i-preserved-then-b-eq123
loop-i-preserved-then-b-eq123 c = interp_opens c.loop-i.invariant (omega arith) (omega arith) c.if-b-eq92.false c.if-b-eq34.false c.if-b-eq39.false c.if-b-eq123.true

pub shape_of-class-then-d-le1 : goal.shape_of-class-then-d-le1
shape_of-class-then-d-le1 c = (interp_ends c.loop-i.invariant (omega arith) (omega arith) c.if-b-eq92.false c.if-b-eq34.false c.if-b-eq39.false c.if-b-eq123.false c.if-b-eq125.true (omega arith)).moved.as_long

pub returns-then-d-le1 : goal.returns-then-d-le1
returns-then-d-le1 c = interp_ends c.loop-i.invariant (omega arith) (omega arith) c.if-b-eq92.false c.if-b-eq34.false c.if-b-eq39.false c.if-b-eq123.false c.if-b-eq125.true (omega arith)

pub overflow_sub-d : goal.overflow_sub-d
overflow_sub-d c = omega arith

pub loop-i-smaller-then-b-eq125 : goal.loop-i-smaller-then-b-eq125
loop-i-smaller-then-b-eq125 c = omega arith

pub loop-i-preserved-then-b-eq125 : goal.loop-i-preserved-then-b-eq125
loop-i-preserved-then-b-eq125 c = interp_closes c.loop-i.invariant (omega arith) (omega arith) c.if-b-eq92.false c.if-b-eq34.false c.if-b-eq39.false c.if-b-eq123.false c.if-b-eq125.true (omega arith)

pub loop-i-smaller : goal.loop-i-smaller
loop-i-smaller c = omega arith

pub loop-i-preserved : goal.loop-i-preserved
loop-i-preserved c = interp_goes_on c.loop-i.invariant (omega arith) (omega arith) c.if-b-eq92.false c.if-b-eq34.false c.if-b-eq39.false c.if-b-eq123.false c.if-b-eq125.false

pub shape_of-class : goal.shape_of-class
shape_of-class c = c.loop-i.invariant.moved.as_long

pub returns : goal.returns
returns c = interp_stops c.loop-i.invariant (omega arith)
