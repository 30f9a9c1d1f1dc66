use native.Mathlib.Omega.{arith}
use Rattle.scan.proofs.StartsLaws.{told}
use Rattle.scan.proofs.CodeLaws.{slash_line, slash_block, slash_code}
use Rattle.scan.proofs.slash.Goals as goal

pub returns-then-next_is : goal.returns-then-next_is
returns-then-next_is c = slash_line _ _ _ (omega arith) (omega arith) c.requires.byte _ (told c.next_is.ensures c.if-next_is.true) c.fill.ensures

pub pair-requires : goal.pair-requires
pair-requires c = record { inside = omega arith; room = omega arith }

pub shape_of-class-then-next_is-2 : goal.shape_of-class-then-next_is-2
shape_of-class-then-next_is-2 c = c.pair.ensures.moved.as_long

pub returns-then-next_is-2 : goal.returns-then-next_is-2
returns-then-next_is-2 c = slash_block _ _ _ (omega arith) (omega arith) c.requires.byte (told c.next_is.ensures c.if-next_is.false) _ _ (told c.next_is-2.ensures c.if-next_is-2.true) c.pair.ensures

pub returns : goal.returns
returns c = slash_code _ _ _ (omega arith) (omega arith) c.requires.byte (told c.next_is.ensures c.if-next_is.false) (told c.next_is-2.ensures c.if-next_is-2.false)
