use mathlib.Core.Path.{◌∙◌}
use Rattle.glob_name.proofs.ReadLaws.{brace_range}
use Rattle.glob_name.proofs.read.brace_read.Goals as goal

pub returns-in-Some : goal.returns-in-Some
returns-in-Some c = c.plain_read.ensures ∙ brace_range _ _ c.in-Some.ensures
