use mathlib.Core.Path.{◌∙◌}
use Rattle.options.proofs.ListLaws.{over_whole}
use Rattle.options.proofs.strengths.read.Goals as goal

pub returns : goal.returns
returns c = λ h. c.put_line.ensures.is ∙ over_whole 11 _ h
