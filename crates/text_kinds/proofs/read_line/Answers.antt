use Rattle.text_kinds.proofs.ReadLaws.{line_shallow, line_room_law, line_tells, read_places, read_none}
use Rattle.text_kinds.proofs.read_line.Goals as goal

pub classify-after-requires : goal.classify-after-requires
classify-after-requires c =
    let s = c.requires in
    line_room_law s.source_fits s.listed s.read s.at_in_bounds.0 s.at_in_bounds.1 _ c.line_end-end.ensures _ c.line_at-line.ensures

pub returns-then-not-is_on : goal.returns-then-not-is_on
returns-then-not-is_on c =
    let s = c.requires in
    read_none s.source_fits s.listed s.read s.at_in_bounds.0 s.at_in_bounds.1 _ c.line_end-end.ensures _ c.line_at-line.ensures
    c.classify-after.ensures _ c.is_on.ensures c.if-not-is_on.true

pub answer_line-next-requires-clause-tells : goal.answer_line-next-requires-clause-tells
answer_line-next-requires-clause-tells c =
    let s = c.requires in
    line_tells s.source_fits s.listed s.read s.at_in_bounds.0 s.at_in_bounds.1 _ c.line_end-end.ensures _ c.line_at-line.ensures _ _ _
    c.classify-after.ensures c.ascii_to-ascii.ensures.0

pub answer_line-next-requires-clause-shallow : goal.answer_line-next-requires-clause-shallow
answer_line-next-requires-clause-shallow c =
    let s = c.requires in
    line_shallow s.source_fits s.listed s.read s.at_in_bounds.0 s.at_in_bounds.1 _ c.line_end-end.ensures _ c.line_at-line.ensures

pub returns : goal.returns
returns c =
    let s = c.requires in
    read_places s.source_fits s.listed s.read s.at_in_bounds.0 s.at_in_bounds.1 _ c.line_end-end.ensures _ c.line_at-line.ensures
    c.classify-after.ensures _ c.is_on.ensures c.if-not-is_on.false _ _ _ c.answer_line-next.ensures c.ascii_to-ascii.ensures.0
