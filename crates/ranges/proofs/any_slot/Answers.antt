use Rattle.std.proofs.Common.{rules, refl, ◌∙◌}
use native.Mathlib.Omega.{arith}
use Rattle.std.proofs.lemmas.Iterator.{YieldsList-from_range}
use Rattle.std.proofs.lemmas.Iterator.Search.{any_from_yields_List}
use Rattle.ranges.proofs.SlotLaws.{found_in, found_among}
use Rattle.ranges.proofs.any_slot.Goals as goal

pub returns : goal.returns
returns c =
    let a = c.args in
    any_from_yields_List (found_in a.range a.slots.now a.p) _ _ _ c.any.ensures.ran
    (YieldsList-from_range 1 _ a.range.width refl (omega arith))
    (λ x b q k. search rules)
    ∙ found_among _ _ _ _
