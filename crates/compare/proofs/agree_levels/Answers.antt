use borrow.Author.Rules.{rules}
use native.Mathlib.Omega.{arith}
use Rattle.compare.proofs.WriterLaws.{leveling_start, leveling_none, leveling_in, leveling_room, leveling_short, leveling_more, leveling_end}
use Rattle.compare.proofs.agree_levels.Goals as goal

pub returns-then-n-eq0 : goal.returns-then-n-eq0
returns-then-n-eq0 c = search (rules, leveling_none)

pub loop-init : goal.loop-init
loop-init c = search (rules, leveling_start)

pub slice_bounds-agree-count : goal.slice_bounds-agree-count
slice_bounds-agree-count c = search (rules, leveling_in)

pub slice_bounds-agree-start : goal.slice_bounds-agree-start
slice_bounds-agree-start c = search (rules, leveling_in)

pub overflow_add-result : goal.overflow_add-result
overflow_add-result c = omega (arith, leveling_room _ _ _ _ _ c.loop.invariant _ c.agree-k.ensures)

pub returns-then-k-n : goal.returns-then-k-n
returns-then-k-n c = search (rules, leveling_short)

pub overflow_add-at : goal.overflow_add-at
overflow_add-at c = omega (arith, leveling_room _ _ _ _ _ c.loop.invariant _ c.agree-k.ensures)

pub loop-preserved : goal.loop-preserved
loop-preserved c = leveling_more _ _ _ _ _ c.loop.invariant _ c.agree-k.ensures (omega arith) (omega arith)

pub returns : goal.returns
returns c = search (rules, leveling_end)
