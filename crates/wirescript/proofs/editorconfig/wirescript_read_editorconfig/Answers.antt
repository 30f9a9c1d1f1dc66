use mathlib.Core.Path.{ap, ◌∙◌}
use Rattle.config_rules.specs.Call.{answer_of}
use Rattle.wirescript.proofs.editorconfig.wirescript_read_editorconfig.Goals as goal

pub returns : goal.returns
returns c = record { answer = c.into.ensures ∙ ap answer_of c.read.ensures }
