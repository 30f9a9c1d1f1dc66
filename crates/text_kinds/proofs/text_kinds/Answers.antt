use mathlib.Core.Path.{refl}
use native.Mathlib.Omega.{arith}
use Rattle.text_kinds.proofs.ReadLaws.{read_start, as_zeroed, read_all, read_end}
use Rattle.text_kinds.proofs.PlaceLaws.{count_half}
use Rattle.text_kinds.proofs.text_kinds.Goals as goal

pub loop-p-init : goal.loop-p-init
loop-p-init c = (read_start _ _ _ _ _ c.requires.source_fits c.requires.listed.room c.zero.ensures, refl, refl)

pub read_line-p-requires-clause-at_in_bounds : goal.read_line-p-requires-clause-at_in_bounds
read_line-p-requires-clause-at_in_bounds c = (omega arith, omega (arith, count_half c.args.places.now))

pub returns-else-p-n : goal.returns-else-p-n
returns-else-p-n c =
    let i = c.loop-p.invariant in
    read_all _ _ _ _ _ _ c.requires.source_fits i.0 (as_zeroed _ _ c.loop-p.kinds c.zero.ensures i.1) (omega arith)

pub returns-after-loop-p : goal.returns-after-loop-p
returns-after-loop-p c =
    let s = c.requires in
    let i = c.loop-p.invariant in
    read_end _ _ _ _ _ _ s.source_fits s.listed.order i.0 (as_zeroed _ _ c.loop-p.kinds c.zero.ensures i.1) (omega arith)
