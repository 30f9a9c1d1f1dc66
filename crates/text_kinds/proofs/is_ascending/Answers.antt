use Rattle.std.proofs.Common.{rules, refl, ap, not, ◌∙◌, ◌-◌, ◌/◌, length}
use Rattle.std.proofs.lemmas.Iterator.{YieldsList-from_range}
use Rattle.std.proofs.lemmas.Iterator.Search.{any_from_yields_List}
use Rattle.text_kinds.proofs.PlaceLaws.{before_in, ascends}
use Rattle.text_kinds.proofs.is_ascending.Goals as goal

pub returns : goal.returns
returns c =
    let n = length c.args.places.now / 2 - 1 in
    ap not (any_from_yields_List (before_in c.args.places.now) _ _ _ c.any.ensures.ran (YieldsList-from_range 1 _ n refl refl)
    (λ x b q k. search rules))
    ∙ ascends _
