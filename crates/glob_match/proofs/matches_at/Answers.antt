use borrow.Author.Rules.{rules}
use Rattle.glob_match.proofs.PathLaws.{reading_start, reading_more, reading_levels, reading_whole}
use Rattle.glob_match.proofs.matches_at.Goals as goal

pub loop-e-init : goal.loop-e-init
loop-e-init c = reading_start _ _ _ _ 1026 _ c.requires.1 c.args.name.same c.empty-state.ensures c.pass.ensures

pub loop-e-preserved : goal.loop-e-preserved
loop-e-preserved c = search (rules, reading_more)

pub returns-then-levels : goal.returns-then-levels
returns-then-levels c = search (rules, reading_levels)

pub returns-else-levels : goal.returns-else-levels
returns-else-levels c = search (rules, reading_whole)
