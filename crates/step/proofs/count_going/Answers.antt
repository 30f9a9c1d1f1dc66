use Rattle.step.proofs.GoingLaws.{count_room, own_length, counts_own, counts_spaced}
use Rattle.step.proofs.count_going.Goals as goal

pub scan_brackets-requires : goal.scan_brackets-requires
scan_brackets-requires c =
    let s = c.requires in
    count_room _ _ _ _ _ _ s.line_room s.goes s.line_bound s.nested (own_length _ _ _ _ s.goes c.if-g.true)

pub returns-then-g : goal.returns-then-g
returns-then-g c =
    counts_own _ _ _ _ _ _ _ _ c.requires.well_formed c.requires.goes c.requires.closers c.if-g.true c.scan_brackets.ensures

pub returns-else-g : goal.returns-else-g
returns-else-g c =
    counts_spaced _ _ _ _ _ _ _ _ c.requires.well_formed c.requires.goes c.requires.closers c.if-g.false c.scan_brackets_at.ensures
