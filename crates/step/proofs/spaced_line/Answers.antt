use mathlib.Core.Path.{refl}
use native.Mathlib.Omega.{arith}
use Rattle.step.proofs.StepLaws.{ready_room, spaced_step}
use Rattle.step.proofs.spaced_line.Goals as goal

pub count_going-deep-requires : goal.count_going-deep-requires
count_going-deep-requires c =
    let q = c.put_going-p.ensures in
    record { well_formed = c.requires.solid_line.well; line_room = ready_room _ c.requires.ready refl; goes = c.requires.goes; closers = q.closers; line_bound = omega (arith, c.requires.ready.depth, q.left.depth); nested = q.left.nested }

pub shape_of-scratch : goal.shape_of-scratch
shape_of-scratch c = c.count_going-deep.ensures.long

pub returns : goal.returns
returns c =
    spaced_step _ _ _ _ _ _ _ _ _ _ _ _ _ _ _ _ c.requires.marks c.requires.goes c.put_going-p.ensures c.count_going-deep.ensures c.ignore_of.ensures c.after_line.ensures
