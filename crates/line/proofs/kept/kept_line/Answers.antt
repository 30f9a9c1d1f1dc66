use native.Mathlib.Omega.{arith}
use mathlib.Core.Path.{refl, sym}
use lib.Seq.{length-take-le}
use Rattle.line.proofs.HoldsLaws.{stack_room, stack_nested, push_room, line_told, indent_none}
use Rattle.line.proofs.KeptLaws.{part_fits, shown_short, kept_step}
use Rattle.line.proofs.kept.kept_line.Goals as goal

pub slice_bounds-shown-end : goal.slice_bounds-shown-end
slice_bounds-shown-end c =
    sym (length-take-le _ _ c.requires.shown_part.fits)

pub push_line-text-requires : goal.push_line-text-requires
push_line-text-requires c =
    let p = c.requires.shown_part in
    record { indent_value = indent_none; line = line_told _ _ _ p.well c.line_facts-facts.ensures c.takes_else.ensures; ordered = c.requires.ready.small.ordered; line_bound = push_room c.requires.ready _ (shown_short p) }

pub overflow_mul-base : goal.overflow_mul-base
overflow_mul-base c = omega (arith, c.requires.ready.limit)

pub pop_closers-left-requires : goal.pop_closers-left-requires
pop_closers-left-requires c = stack_nested c.requires.ready

pub scan_brackets-nesting-requires : goal.scan_brackets-nesting-requires
scan_brackets-nesting-requires c =
    let k = part_fits c.args.st.carry _ _ _ c.requires.trimmed_line c.scanned_part-part.ensures in
    stack_room c.requires.ready _ 0 _ _ refl (omega (arith, c.requires.ready.depth, k)) (omega (arith, k)) (omega (arith, c.pop_closers-left.ensures.depth)) c.pop_closers-left.ensures.line
    c.pop_closers-left.ensures.nested.runs

pub returns : goal.returns
returns c =
    kept_step _ _ _ _ _ _ _ _ _ _ _ _ _ _ _ _ _ _ _ c.requires.well_formed c.requires.trimmed_line c.requires.classes c.requires.shown_part c.push_line-text.ensures c.closers_of-closers.ensures
    c.pop_closers-left.ensures c.scanned_part-part.ensures c.scan_brackets-nesting.ensures c.prev_of.ensures c.protected_after.ensures
