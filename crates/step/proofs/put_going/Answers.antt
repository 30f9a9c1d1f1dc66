use native.Mathlib.Omega.{arith}
use Rattle.line.proofs.HoldsLaws.{stack_nested}
use Rattle.step.proofs.PutLaws.{asks, goes_on_law, heads, put_on}
use Rattle.step.proofs.put_going.Goals as goal

pub overflow_mul-base : goal.overflow_mul-base
overflow_mul-base c =
    record { fits = omega (arith, c.requires.ready.limit) }

pub pop_closers-left-requires : goal.pop_closers-left-requires
pop_closers-left-requires c =
    stack_nested c.requires.ready

pub place_line-st-requires : goal.place_line-st-requires
place_line-st-requires c =
    let s0 = c.requires.ready in
    let s1 = c.requires.solid_line in
    let s2 = c.requires.goes in
    let t = c.line_that_goes_on-l.ensures in
    let k = c.leading_closers-closers.ensures in
    let p = c.pop_closers-left.ensures in
    let o = c.prev_of-own.ensures in
    record { goes_on = goes_on_law _ _ _ _ s0 s1 _ s2 _ t; heads = heads _ _ _ _ s0 s1 _ s2 _ t _ _ _ _ _ k p o; asks = asks _ _ _ _ s0 s1 _ s2 _ t _ _ _ _ _ k p o }

pub returns : goal.returns
returns c =
    put_on _ _ _ _ c.requires.ready c.requires.solid_line _ c.requires.goes _ c.line_that_goes_on-l.ensures _ _ _ _ _
    c.leading_closers-closers.ensures c.pop_closers-left.ensures c.prev_of-own.ensures _ _ _ _ _ c.place_line-st.ensures
