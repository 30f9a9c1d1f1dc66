use Rattle.std.proofs.Common.{rules, tests}
use Rattle.std.proofs.lemmas.Iterator.{YieldsList-from_slice}
use Rattle.std.proofs.lemmas.Iterator.Search.{position_from_yields_List}
use Rattle.rules.specs.Basics.{is}
use Rattle.config_lines.proofs.PartLaws.{eq_is}
use Rattle.config_lines.proofs.eq_at.Goals as goal

pub returns : goal.returns
returns c =
    eq_is c.args.line.now c.position.result
    (position_from_yields_List (is "=") _ _ _ c.position.ensures.ran (YieldsList-from_slice c.args.line.now cc) (λ x b q k. search (rules, tests)))
