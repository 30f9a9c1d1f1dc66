use Rattle.std.proofs.Common.{rules, sym, ap, ◌∙◌}
use Rattle.config_rules.specs.Sections.{long_name}
use Rattle.config_text.proofs.WalkLaws.{names_any}
use Rattle.config_text.proofs.has_long_name.Goals as goal

pub returns : goal.returns
returns c = names_any _ (λ f line b f' p k. search rules) _ _ _ _ c.any.ensures.ran ∙ sym (ap long_name c.of.ensures.is)
