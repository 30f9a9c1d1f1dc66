use native.Mathlib.Omega.{arith}
use Rattle.buffer.specs.Repeat.{times}
use Rattle.text.proofs.StepLaws.{row_room, starts_at, kept_room, push_done}
use Rattle.text.proofs.push_line.Goals as goal

pub append_line-next-requires : goal.append_line-next-requires
append_line-next-requires c = let a = c.args in
    row_room a.how.ending _ _ (times a.how.levels a.indent.now) a.line.now c.ending_before-ending.ensures c.stem_at-from.ensures.small c.requires.line_bound

pub overflow_sub-start : goal.overflow_sub-start
overflow_sub-start c = let a = c.args in
    omega (arith, starts_at _ (times a.how.levels a.indent.now) a.line.now c.len-indented.ensures c.append_line-next.ensures)

pub overflow_add-result : goal.overflow_add-result
overflow_add-result c = let a = c.args in
    omega (arith, kept_room _ (times a.how.levels a.indent.now) a.line.now c.len-indented.ensures c.append_line-next.ensures c.requires.line c.tail_of-kept.ensures)

pub returns : goal.returns
returns c =
    let a = c.args in
    push_done a.how.ending _ _ _ _ _ a.indent.now a.how.levels a.line.now _ _ _ _ _ _ _ _ _ _ _ _ _ c.requires.indent_value c.requires.line c.requires.ordered
    c.stem_at-from.ensures c.stem_first-first.ensures c.ending_before-ending.ensures c.append_line-next.ensures c.len-indented.ensures
    c.tail_of-kept.ensures c.full_of.ensures c.full_of-2.ensures
    c.alone_of.ensures c.kind_of.ensures c.full_of-3.ensures
