use mathlib.Core.Path.{ap}
use native.Mathlib.Omega.{arith}
use borrow.Author.Rules.{rules}
use Rattle.rules.specs.declared.Mark.{Mark}
use Rattle.basics.specs.Depth.{depth_of}
use Rattle.text_kind.proofs.KindMarks.{past_line, counting_start, counting_tail, counting_found, counting_more, counting_end}
use Rattle.text_kind.proofs.kind_in_line.Goals as goal

pub returns-then-line-column : goal.returns-then-line-column
returns-then-line-column c = past_line _ c.args.carry _ c.if-line-column.true

pub loop-i-init : goal.loop-i-init
loop-i-init c = counting_start _ _ _

pub next_mark-t-requires : goal.next_mark-t-requires
next_mark-t-requires c = omega (arith, ap (λ (x : Mark). depth_of x.mode) c.begin-t.ensures)

pub loop-i-preserved-then-is_tail : goal.loop-i-preserved-then-is_tail
loop-i-preserved-then-is_tail c = search (rules, counting_tail)

pub returns-then-left-eq0 : goal.returns-then-left-eq0
returns-then-left-eq0 c = search (rules, counting_found)

pub loop-i-preserved : goal.loop-i-preserved
loop-i-preserved c = counting_more c.loop-i.invariant _ _ (omega arith) c.next_mark-t.ensures c.is_tail.ensures c.if-is_tail.false c.if-left-eq0.false

pub returns : goal.returns
returns c = search (rules, counting_end)
