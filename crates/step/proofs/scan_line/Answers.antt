use mathlib.Core.Path.{sym}
use lib.Seq.{length-take-le}
use Rattle.step.proofs.StepLaws.{scan_room, scanned, scanned_front, scanned_bytes}
use Rattle.step.proofs.scan_line.Goals as goal

pub slice_bounds-classify-end-2 : goal.slice_bounds-classify-end-2
slice_bounds-classify-end-2 c = sym (length-take-le _ _ c.requires.line_in_bounds)

pub classify-after-requires : goal.classify-after-requires
classify-after-requires c = scan_room c.args.line.now c.args.scratch.now c.requires.line_in_bounds c.requires.line_len_bound

pub slice_bounds-marker_in-end-2 : goal.slice_bounds-marker_in-end-2
slice_bounds-marker_in-end-2 c =
    scanned_front _ _ _ c.requires.line_in_bounds c.classify-after.ensures

pub marker_in-marker-requires : goal.marker_in-marker-requires
marker_in-marker-requires c =
    record { well_formed = c.requires.well_formed; class_value = scanned_bytes _ _ _ c.requires.line_in_bounds c.classify-after.ensures }

pub returns : goal.returns
returns c =
    scanned _ _ _ c.requires.line_in_bounds c.classify-after.ensures _ c.marker_in-marker.ensures
