use native.Mathlib.Omega.{arith}
use Rattle.scan.proofs.StartsLaws.{told}
use Rattle.scan.proofs.CodeLaws.{block_begins, block_plainly, block_opens, block_ends, block_closes, block_goes_on}
use Rattle.scan.proofs.block.Goals as goal

pub loop-i-init : goal.loop-i-init
loop-i-init c = block_begins _ _ _ _ (omega arith)

pub loop-i-preserved-then-two_at : goal.loop-i-preserved-then-two_at
loop-i-preserved-then-two_at c = block_opens c.loop-i.invariant (told c.two_at.ensures c.if-two_at.true) c.pair-i.ensures

pub returns-then-d-le1 : goal.returns-then-d-le1
returns-then-d-le1 c =
    block_ends c.loop-i.invariant (told c.two_at.ensures c.if-two_at.false) (told c.two_at-in-loop-i.ensures c.if-two_at-2.true)
    c.pair-i-then-two_at-2.ensures (omega arith)

pub loop-i-preserved-then-two_at-2 : goal.loop-i-preserved-then-two_at-2
loop-i-preserved-then-two_at-2 c =
    block_closes c.loop-i.invariant (told c.two_at.ensures c.if-two_at.false) (told c.two_at-in-loop-i.ensures c.if-two_at-2.true)
    c.pair-i-then-two_at-2.ensures (omega arith)

pub loop-i-preserved-then-is_plain : goal.loop-i-preserved-then-is_plain
loop-i-preserved-then-is_plain c =
    block_plainly
    (block_goes_on c.loop-i.invariant (told c.two_at.ensures c.if-two_at.false) (omega arith) (omega arith)
    (told c.two_at-in-loop-i.ensures c.if-two_at-2.false))
    c.plain_comment-i.ensures

pub loop-i-preserved : goal.loop-i-preserved
loop-i-preserved c =
    block_goes_on c.loop-i.invariant (told c.two_at.ensures c.if-two_at.false) (omega arith) (omega arith)
    (told c.two_at-in-loop-i.ensures c.if-two_at-2.false)
