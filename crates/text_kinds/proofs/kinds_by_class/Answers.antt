use mathlib.Core.Path.{ap}
use native.Mathlib.Omega.{arith}
use Rattle.text_kinds.specs.declared.Place.{Place}
use Rattle.text_kinds.proofs.PlaceLaws.{count_half}
use Rattle.text_kinds.proofs.LineLaws.{telling_more}
use Rattle.text_kinds.proofs.kinds_by_class.Goals as goal

pub place_at-requires : goal.place_at-requires
place_at-requires c = omega (arith, c.is_on.ensures.there c.loop-told-test.true, count_half c.args.places.now)

pub loop-told-preserved : goal.loop-told-preserved
loop-told-preserved c =
    telling_more c.loop-told.invariant _ _ _ _ _ c.requires.listed c.is_on.ensures c.loop-told-test.true
    (rw (ap (λ (p : Place). p.column) c.place_at.ensures) at c.told_kind-told.ensures) c.in-Some.is c.number.ensures
