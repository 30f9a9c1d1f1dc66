use borrow.Author.Rules.{rules}
use mathlib.Core.Path.{refl}
use Rattle.rules.proofs.CallExamples.{defaults_named, defaults_valid}
use Rattle.wsfmt_run.proofs.ProgramLaws.{called}
use Rattle.wsfmt_run.proofs.format_default.Goals as goal

pub returns : goal.returns
returns c = called _ _ _ _ _ c.format.ensures defaults_named defaults_valid refl (search rules) (search rules) (search rules)
