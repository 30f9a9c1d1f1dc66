use native.Mathlib.Omega.{arith}
use mathlib.Core.Path.{sym}
use lib.Seq.{length-take-le}
use Rattle.line.proofs.HoldsLaws.{front_size, line_room_law, classify_room, start_within, trimmed_line}
use Rattle.line.proofs.KeptLaws.{part_fits, shown, raw_step, raw_classes, raw_ready}
use Rattle.line.proofs.kept.raw_line.Goals as goal

pub slice_bounds-trim_start-end : goal.slice_bounds-trim_start-end
slice_bounds-trim_start-end c =
    sym (length-take-le _ _ c.trim_end-tail.ensures.fits)

pub slice_bounds-line-count : goal.slice_bounds-line-count
slice_bounds-line-count c =
    start_within _ _ _ c.trim_end-tail.ensures c.trim_start-start.ensures

pub slice_bounds-line-start : goal.slice_bounds-line-start
slice_bounds-line-start c =
    omega (arith, start_within _ _ _ c.trim_end-tail.ensures c.trim_start-start.ensures, c.trim_end-tail.ensures.fits)

pub slice_bounds-classify-end : goal.slice_bounds-classify-end
slice_bounds-classify-end c =
    let t = trimmed_line _ _ _ c.trim_end-tail.ensures c.trim_start-start.ensures in
    line_room_law c.requires.ready c.scanned_part-part.result.now (part_fits c.args.st.carry _ _ _ t c.scanned_part-part.ensures)

pub slice_bounds-classify-end-2 : goal.slice_bounds-classify-end-2
slice_bounds-classify-end-2 c =
    let t = trimmed_line _ _ _ c.trim_end-tail.ensures c.trim_start-start.ensures in
    front_size c.requires.ready c.scanned_part-part.result.now (part_fits c.args.st.carry _ _ _ t c.scanned_part-part.ensures)

pub classify-after-requires : goal.classify-after-requires
classify-after-requires c =
    let t = trimmed_line _ _ _ c.trim_end-tail.ensures c.trim_start-start.ensures in
    classify_room c.requires.ready c.args.st.carry c.scanned_part-part.result.now (part_fits c.args.st.carry _ _ _ t c.scanned_part-part.ensures) (omega arith)

pub kept_line-requires : goal.kept_line-requires
kept_line-requires c =
    let t = trimmed_line _ _ _ c.trim_end-tail.ensures c.trim_start-start.ensures in
    let k = c.classify-after.ensures in
    let p = c.scanned_part-part.ensures in
    record { ready = raw_ready _ _ _ _ _ _ _ _ c.requires.ready t p k; well_formed = c.requires.well_formed; trimmed_line = t; classes = raw_classes _ _ _ _ _ _ _ _ c.requires.ready t p k; shown_part = (shown c.in_block.result c.args.st.carry _ _ _ c.requires.well_formed c.trim_end-tail.ensures c.shown_len-shown.ensures).part }

pub returns : goal.returns
returns c =
    let t = trimmed_line _ _ _ c.trim_end-tail.ensures c.trim_start-start.ensures in
    raw_step _ _ _ _ _ _ _ _ _ _ _ _ _ _ _ _ _ _ c.requires.ready c.requires.well_formed t c.trim_end-tail.ensures c.scanned_part-part.ensures c.classify-after.ensures
    c.in_block.ensures c.shown_len-shown.ensures c.kept_line.ensures
