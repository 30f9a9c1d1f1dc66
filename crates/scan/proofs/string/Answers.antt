use native.Mathlib.Omega.{arith}
use mathlib.Core.Path.{◌∙◌}
use lib.ListN.{length-set}
use Rattle.scan.proofs.CodeLaws.{code_string}
use Rattle.scan.proofs.string.Goals as goal

pub quoted-requires : goal.quoted-requires
quoted-requires c = record { within = omega arith; room = simp length-set (omega arith) }

pub shape_of-class : goal.shape_of-class
shape_of-class c = c.quoted.ensures.moved.as_long ∙ simp length-set

pub returns : goal.returns
returns c = code_string _ _ _ (omega arith) (omega arith) _ _ _ c.requires.byte c.quoted.ensures
