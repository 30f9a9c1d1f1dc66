use Rattle.std.proofs.Common.{rules, refl, ◌∙◌, ◌-◌, length}
use native.Mathlib.Omega.{arith}
use Rattle.std.proofs.lemmas.Iterator.{YieldsList-from_range}
use Rattle.std.proofs.lemmas.Iterator.Search.{any_from_yields_List}
use Rattle.glob_match.proofs.NameLaws.{slash_in, slash_among}
use Rattle.glob_match.proofs.name.has_slash.Goals as goal

pub returns : goal.returns
returns c =
    let n = length c.args.kinds.now - 1 in
    let slash = slash_in c.args.kinds.now c.args.chars.now in
    any_from_yields_List slash _ _ _ c.any.ensures.ran (YieldsList-from_range 1 _ n refl refl)
    (λ x b q k. search rules)
    ∙ slash_among _ _ c.requires.0 1 n (omega arith)
