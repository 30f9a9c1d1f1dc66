use borrow.Author.Rules.{rules}
use Rattle.step.proofs.MarkerLaws.{end_within, code_well, comment_well, marker_none, marker_after, marker_alone}
use Rattle.step.proofs.CommentLaws.{outside_none}
use lib.Seq.{length-take-le}
use mathlib.Core.Path.{sym}
use Rattle.step.proofs.marker_in.Goals as goal

pub returns-then-ends_outside : goal.returns-then-ends_outside
returns-then-ends_outside c = search (rules, outside_none)

pub slice_bounds-is_marker-count : goal.slice_bounds-is_marker-count
slice_bounds-is_marker-count c =
    let s = c.requires in
    end_within _ _ _ s.well_formed s.class_value c.code_end-e.ensures

pub slice_bounds-is_marker-start : goal.slice_bounds-is_marker-start
slice_bounds-is_marker-start c =
    let s = c.requires in
    end_within _ _ _ s.well_formed s.class_value c.code_end-e.ensures

pub is_marker-requires : goal.is_marker-requires
is_marker-requires c =
    let s = c.requires in
    comment_well _ _ _ s.well_formed s.class_value c.code_end-e.ensures

pub slice_bounds-has_code-end : goal.slice_bounds-has_code-end
slice_bounds-has_code-end c =
    let s = c.requires in
    sym (length-take-le _ _ (end_within _ _ _ s.well_formed s.class_value c.code_end-e.ensures))

pub has_code-requires : goal.has_code-requires
has_code-requires c =
    let s = c.requires in
    code_well _ _ _ s.well_formed s.class_value c.code_end-e.ensures

pub returns-then-has_code : goal.returns-then-has_code
returns-then-has_code c =
    let s = c.requires in
    marker_after _ _ _ s.well_formed s.class_value c.code_end-e.ensures _ _ c.is_marker.ensures c.if-not-is_marker.false c.has_code.ensures c.if-has_code.true

pub returns-else-has_code : goal.returns-else-has_code
returns-else-has_code c =
    let s = c.requires in
    marker_alone _ _ _ s.well_formed s.class_value c.code_end-e.ensures _ _ c.is_marker.ensures c.if-not-is_marker.false c.has_code.ensures c.if-has_code.false

pub returns-then-not-is_marker : goal.returns-then-not-is_marker
returns-then-not-is_marker c =
    let s = c.requires in
    marker_none _ _ _ s.well_formed s.class_value c.code_end-e.ensures _ c.is_marker.ensures c.if-not-is_marker.true
