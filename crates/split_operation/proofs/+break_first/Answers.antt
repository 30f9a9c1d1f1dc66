use borrow.Author.Rules.{rules}
use native.Mathlib.Omega.{arith}
use Rattle.split_operation.proofs.ClassLaws.{class_length}
use Rattle.split_operation.proofs.OperationLaws.{line_fits, whole_room, first_whole, first_within, first_fits, rounds_left, rest_fits, first_broken, some_rounds, fewer_rounds}
use Rattle.split_operation.proofs.+break_first.Goals as goal

pub round_break-requires : goal.round_break-requires
round_break-requires t c = line_fits c.requires

pub invariant_of-pad : goal.invariant_of-pad
invariant_of-pad t c = let h = whole_room c.requires in record { fits = omega arith }

pub append_indented-next-requires : goal.append_indented-next-requires
append_indented-next-requires t c = whole_room c.requires

pub returns-in-None : goal.returns-in-None
returns-in-None t c = first_whole _ _ _ _ _ _ _ _ _ _ c.requires _ _ _ _ c.in-None.ensures c.append_indented-next.ensures

pub trim_part-p-requires : goal.trim_part-p-requires
trim_part-p-requires t c = first_within _ _ _ _ _ _ _ _ _ _ c.requires _ c.in-Some.ensures

pub slice_bounds-k-end : goal.slice_bounds-k-end
slice_bounds-k-end t c =
    let k = class_length _ _ c.requires.classed in
    let t = c.trim_part-p.ensures in
    let f = t.fits in
    let o = t.order in
    let q = c.in-Some.ensures.cut.fits in
    search rules

pub overflow_sub-fewer : goal.overflow_sub-fewer
overflow_sub-fewer t c = some_rounds _ (rounds_left _ _ _ _ _ _ _ _ _ c.in-Some.ensures)

pub break_first-requires : goal.break_first-requires
break_first-requires t c = (
  fewer_rounds c.decreases (rounds_left _ _ _ _ _ _ _ _ _ c.in-Some.ensures),
  first_fits _ _ _ _ _ _ _ _ _ _ c.requires _ c.in-Some.ensures _ c.trim_part-p.ensures,
)

pub write_rest-requires : goal.write_rest-requires
write_rest-requires t c =
    rest_fits _ _ _ _ _ _ _ _ _ _ c.requires _ c.in-Some.ensures _ c.trim_part-p.ensures _ _ _ _
    c.break_first.ensures _ c.line_of-first.ensures

pub returns-in-Some : goal.returns-in-Some
returns-in-Some t c =
    first_broken _ _ _ _ _ _ _ _ _ _ c.requires _ c.in-Some.ensures _ c.trim_part-p.ensures _ _ _ _
    c.break_first.ensures _ c.line_of-first.ensures _ _ c.write_rest.ensures
