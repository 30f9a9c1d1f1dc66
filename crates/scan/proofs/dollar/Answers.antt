use native.Mathlib.Omega.{arith}
use mathlib.Core.Path.{◌∙◌}
use Rattle.scan.proofs.StartsLaws.{told}
use Rattle.scan.proofs.StringLaws.{dollar_opens, dollar_passes}
use Rattle.scan.proofs.dollar.Goals as goal

pub pair-i-requires : goal.pair-i-requires
pair-i-requires c = record { inside = omega arith; room = omega arith }

pub interp-requires : goal.interp-requires
interp-requires c = record { within = omega arith; room = omega arith }

pub shape_of-class-then-next_is : goal.shape_of-class-then-next_is
shape_of-class-then-next_is c = c.interp.ensures.moved.as_long ∙ c.pair-i.ensures.moved.as_long

pub returns-then-next_is : goal.returns-then-next_is
returns-then-next_is c = dollar_opens _ _ _ (omega arith) (omega arith) c.requires.byte (told c.next_is.ensures c.if-next_is.true) c.pair-i.ensures c.interp.ensures

pub bounds-class-at : goal.bounds-class-at
bounds-class-at c = omega arith

pub overflow_add-result : goal.overflow_add-result
overflow_add-result c = omega arith

pub returns : goal.returns
returns c = dollar_passes _ _ _ (omega arith) (omega arith) c.requires.byte (told c.next_is.ensures c.if-next_is.false)
