use Rattle.std.proofs.Common.{rules, tests, ap, ◌∙◌, length}
use lib.Seq.{length-take-le}
use Rattle.config_read.proofs.LevelLaws.{level_back}
use Rattle.config_read.proofs.levels.level_from.Goals as goal

pub returns : goal.returns
returns c =
    let s = c.requires in
    let t = c.iter.ensures.rest in
    level_back _ (λ f x b g q. search (rules, tests)) _ _ s.e_in_bounds s.well_formed _ _ _ c.rposition.result _ _ t
    (ap length t ∙ length-take-le _ _ s.e_in_bounds) c.rposition.ensures.ran _ c.map_or.ensures (λ i h. search rules)
