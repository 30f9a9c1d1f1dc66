use native.Mathlib.Omega.{arith}
use borrow.Author.Rules.{rules}
use Rattle.text_kinds.proofs.PlaceLaws.{count_half}
use Rattle.text_kinds.proofs.FillLaws.{passing_start, passing_more, passing_end}
use Rattle.text_kinds.proofs.pass_line.Goals as goal

pub loop-next-init : goal.loop-next-init
loop-next-init c = passing_start _ _ _

pub overflow_add-next : goal.overflow_add-next
overflow_add-next c = omega (arith, c.is_on.ensures.there c.loop-next-test.true, count_half c.args.places.now)

pub loop-next-smaller : goal.loop-next-smaller
loop-next-smaller c = omega (arith, c.is_on.ensures.there c.loop-next-test.true)

pub loop-next-preserved : goal.loop-next-preserved
loop-next-preserved c = search (rules, passing_more)

pub returns : goal.returns
returns c = search (rules, passing_end)
