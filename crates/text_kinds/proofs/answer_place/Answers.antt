use native.Mathlib.Omega.{arith}
use borrow.Author.Rules.{rules}
use Rattle.text_kinds.proofs.FillLaws.{answering_start, answering_room, answering_more, answering_end}
use Rattle.text_kinds.proofs.answer_place.Goals as goal

pub loop-place-init : goal.loop-place-init
loop-place-init c = answering_start _ _ _ _ _ _

pub bounds-kinds-next : goal.bounds-kinds-next
bounds-kinds-next c = search (rules, answering_room)

pub overflow_add-next : goal.overflow_add-next
overflow_add-next c = omega (arith, c.is_place.ensures.there c.loop-place-test.true, c.requires.room)

pub loop-place-smaller : goal.loop-place-smaller
loop-place-smaller c = omega (arith, c.is_place.ensures.there c.loop-place-test.true)

pub loop-place-preserved : goal.loop-place-preserved
loop-place-preserved c = search (rules, answering_more)

pub returns : goal.returns
returns c = search (rules, answering_end)
