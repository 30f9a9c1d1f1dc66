use Rattle.std.proofs.Common.{◌≡◌, ◌+◌, ◌-◌, arith}
use Rattle.simdutf8.proofs.Parts.{front_and_part}
use Rattle.utf8.proofs.well_formed_parts.Goals as goal

pub loop-at-preserved : goal.loop-at-preserved
loop-at-preserved c =
    let at = c.loop-at.at in
    let end = c.in-Some.end in
    let part = c.in-Some.ensures in
    let e : at + (end - at) ≡ end = omega (arith, part.0) in
    (part.1, rw e at (front_and_part _ at c.loop-at.invariant.0 c.loop-at.invariant.1 (end - at) part.2))
