use mathlib.Core.Path.{ap, sym, ◌∙◌}
use Rattle.config_read.specs.Refusals.{rank_number}
use Rattle.config_read.proofs.RefusalLaws.{read_refused, path_fine, texts_fine, read_values}
use Rattle.config_read.proofs.read.Goals as goal

pub returns-in-Some : goal.returns-in-Some
returns-in-Some c = read_refused _ _ _ (sym (ap rank_number c.in-Some.is) ∙ c.worst_of.ensures)

pub unslashed-p-requires : goal.unslashed-p-requires
unslashed-p-requires c = path_fine _ _ (sym (ap rank_number c.in_default.is) ∙ c.worst_of.ensures)

pub resolved-requires : goal.resolved-requires
resolved-requires c = (c.unslashed-p.ensures.well, c.nearest.ensures.at, texts_fine _ _ (sym (ap rank_number c.in_default.is) ∙ c.worst_of.ensures))

pub returns : goal.returns
returns c = read_values _ _ (sym (ap rank_number c.in_default.is) ∙ c.worst_of.ensures) _ _ _ c.unslashed-p.ensures c.nearest.ensures c.resolved.ensures
