use native.Mathlib.Omega.{arith}
use native.Mathlib.Nat.{le_refl}
use mathlib.Core.Bool.{false}
use mathlib.Core.Path.{refl, sym, ◌∙◌}
use lib.Seq.{length-take-le}
use Rattle.basics.proofs.OnlyLaws.{only_same}
use Rattle.line.proofs.HoldsLaws.{start_within, trimmed_line, ready_as}
use Rattle.step.proofs.StepLaws.{ready_room, code_ready, lone_is, code_lone, line_ready, solid, marks_of_law, code_protected, code_open, format_code, format_blank, blank_trim, some_line, some_trim}
use Rattle.line.proofs.KeptLaws.{raw_code, whole_shown, code_part_law}
use Rattle.step.proofs.code_line.Goals as goal

pub slice_bounds-trim_start-end : goal.slice_bounds-trim_start-end
slice_bounds-trim_start-end c = sym (length-take-le _ _ c.trim_end-tail.ensures.fits)

pub returns-then-start-tail : goal.returns-then-start-tail
returns-then-start-tail c =
    λ o u. format_blank false false (sym c.requires.ignore_value) (raw_code false _ c.requires.carry_value) _ o refl (blank_trim _ _ _ c.trim_end-tail.ensures c.trim_start-start.ensures c.if-start-tail.true) (c.blank_line.ensures.step _ _)

pub slice_bounds-line-count : goal.slice_bounds-line-count
slice_bounds-line-count c =
    start_within _ _ _ c.trim_end-tail.ensures c.trim_start-start.ensures

pub slice_bounds-line-start : goal.slice_bounds-line-start
slice_bounds-line-start c =
    omega (arith, start_within _ _ _ c.trim_end-tail.ensures c.trim_start-start.ensures, c.trim_end-tail.ensures.fits)

pub lone_line-requires : goal.lone_line-requires
lone_line-requires c =
    let t = trimmed_line _ _ _ c.trim_end-tail.ensures c.trim_start-start.ensures in
    record { ready = ready_as _ _ _ c.requires.ready (only_same _ 0 0) (omega arith) t.short; line_value = lone_is t c.args.st.ignore _ c.goes_alone.ensures c.if-goes_alone.true }

pub returns-then-goes_alone : goal.returns-then-goes_alone
returns-then-goes_alone c =
    let te = c.trim_end-tail.ensures in
    let ts = c.trim_start-start.ensures in
    λ o u. format_code false false (sym c.requires.ignore_value) (raw_code false _ c.requires.carry_value) _ o refl (some_trim _ _ _ te ts c.if-start-tail.false)
    (code_lone (trimmed_line _ _ _ te ts) _ c.goes_alone.ensures c.if-goes_alone.true o (c.lone_line.ensures o u))

pub scan_line-s-requires : goal.scan_line-s-requires
scan_line-s-requires c =
    let t = trimmed_line _ _ _ c.trim_end-tail.ensures c.trim_start-start.ensures in
    record { well_formed = t.well; line_in_bounds = omega (arith, t.short, c.requires.ready.depth, c.requires.ready.room); line_len_bound = omega (arith, t.short, c.requires.ready.depth, c.requires.ready.limit) }

pub keep-requires : goal.keep-requires
keep-requires c =
    let t = trimmed_line _ _ _ c.trim_end-tail.ensures c.trim_start-start.ensures in
    let k = c.scan_line-s.ensures in
    let w = c.requires.well_formed in
    record { ready = code_ready c.requires.ready t k; well_formed = w; trimmed_line = t; classes = code_part_law _ c.requires.carry_value k.classes; shown_part = whole_shown _ w }

pub returns-then-is_kept : goal.returns-then-is_kept
returns-then-is_kept c =
    let te = c.trim_end-tail.ensures in
    let ts = c.trim_start-start.ensures in
    λ o u. format_code false false (sym c.requires.ignore_value) (raw_code false _ c.requires.carry_value) _ o refl (some_trim _ _ _ te ts c.if-start-tail.false)
    (code_protected c.requires.ready (trimmed_line _ _ _ te ts) c.scan_line-s.ensures _ c.is_kept.ensures c.if-is_kept.true c.keep.ensures o)

pub go_on-requires : goal.go_on-requires
go_on-requires c =
    let t = trimmed_line _ _ _ c.trim_end-tail.ensures c.trim_start-start.ensures in
    let k = c.scan_line-s.ensures in
    record { well_formed = t.well; line_room = ready_room _ (line_ready c.requires.ready t k) refl; classes = k.classes }

pub spaced_line-requires : goal.spaced_line-requires
spaced_line-requires c =
    let te = c.trim_end-tail.ensures in
    let ts = c.trim_start-start.ensures in
    let t = trimmed_line _ _ _ te ts in
    let k = c.scan_line-s.ensures in
    record { ready = ready_as _ _ _ (line_ready c.requires.ready t k) c.go_on.ensures.only (le_refl _) (le_refl _); solid_line = solid _ _ t (some_line _ _ _ te ts c.if-start-tail.false); marks = marks_of_law _ _ _ k.marker c.is_alone.ensures; goes = c.go_on.ensures.goes }

pub shape_of-scratch : goal.shape_of-scratch
shape_of-scratch c = c.scratch-4-1.given ∙ c.scratch-3-1.given ∙ c.scratch-2-1.given

pub returns : goal.returns
returns c =
    let te = c.trim_end-tail.ensures in
    let ts = c.trim_start-start.ensures in
    λ o u. format_code false false (sym c.requires.ignore_value) (raw_code false _ c.requires.carry_value) _ o refl (some_trim _ _ _ te ts c.if-start-tail.false)
    (code_open c.requires.ready (trimmed_line _ _ _ te ts) c.scan_line-s.ensures _ c.is_kept.ensures _ c.if-is_kept.false c.is_alone.ensures _ c.go_on.ensures.only o (c.spaced_line.ensures o u))
