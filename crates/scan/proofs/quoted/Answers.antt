use native.Mathlib.Omega.{arith}
use Rattle.scan.proofs.StringLaws.{quoted_begins, quoted_plainly, quoted_escapes, quoted_ends, quoted_goes_on, quoted_stops, other_quote}
use Rattle.scan.proofs.quoted.Goals as goal

pub loop-i-init : goal.loop-i-init
loop-i-init c = quoted_begins _ _ _ _ (omega arith)

pub loop-i-preserved-then-b-eq92 : goal.loop-i-preserved-then-b-eq92
loop-i-preserved-then-b-eq92 c = quoted_escapes c.loop-i.invariant (omega arith) c.if-b-eq92.true c.pair-i.ensures

pub loop-i-preserved-then-b-other : goal.loop-i-preserved-then-b-other
loop-i-preserved-then-b-other c =
    quoted_goes_on c.loop-i.invariant (omega arith) (omega arith) c.if-b-eq92.false c.if-b-eq36.false c.quote_of-end.ensures
    (other_quote _ _ _ _ c.quote_of-end.ensures c.quote_of-other.ensures c.if-b-other.true)

pub returns-then-b-end : goal.returns-then-b-end
returns-then-b-end c = quoted_ends c.loop-i.invariant (omega arith) (omega arith) c.if-b-eq92.false c.if-b-eq36.false c.quote_of-end.ensures c.if-b-end.true

pub loop-i-preserved-then-is_plain : goal.loop-i-preserved-then-is_plain
loop-i-preserved-then-is_plain c =
    quoted_plainly (quoted_goes_on c.loop-i.invariant (omega arith) (omega arith) c.if-b-eq92.false c.if-b-eq36.false c.quote_of-end.ensures c.if-b-end.false)
    c.plain_string-i.ensures

pub loop-i-preserved : goal.loop-i-preserved
loop-i-preserved c = quoted_goes_on c.loop-i.invariant (omega arith) (omega arith) c.if-b-eq92.false c.if-b-eq36.false c.quote_of-end.ensures c.if-b-end.false

pub returns : goal.returns
returns c = quoted_stops c.loop-i.invariant (omega arith)
