use mathlib.Core.Path.{◌∙◌}
use Rattle.brackets.proofs.StackLaws.{level_bool}
use Rattle.brackets.proofs.level_of.Goals as goal

pub returns : goal.returns
returns c = c.from.ensures ∙ level_bool _
