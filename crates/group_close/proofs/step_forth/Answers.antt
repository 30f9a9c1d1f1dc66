use mathlib.Core.Path.{refl}
use Rattle.group_close.proofs.ForthLaws.{forth_step_law}
use borrow.Author.Rules.{rules}
use Rattle.group_close.proofs.step_forth.Goals as goal

pub returns : goal.returns
returns c = (search (rules, forth_step_law), refl)
