use native.Mathlib.Omega.{arith}
use borrow.Author.Rules.{rules}
use Rattle.scan.proofs.CodeLaws.{code_escaped, code_passed}
use Rattle.scan.proofs.start.Goals as goal

pub string-requires : goal.string-requires
string-requires c = record { inside = omega arith; byte = c.in-34.is; room = omega arith }

pub shape_of-class-in-34 : goal.shape_of-class-in-34
shape_of-class-in-34 c = c.string.ensures.scanned.moved.as_long

pub returns-in-34 : goal.returns-in-34
returns-in-34 c = c.string.ensures

pub string-requires-in-39 : goal.string-requires-in-39
string-requires-in-39 c = record { inside = omega arith; byte = c.in-39.is; room = omega arith }

pub shape_of-class-in-39 : goal.shape_of-class-in-39
shape_of-class-in-39 c = c.string-in-39.ensures.scanned.moved.as_long

pub returns-in-39 : goal.returns-in-39
returns-in-39 c = c.string-in-39.ensures

pub slash-requires : goal.slash-requires
slash-requires c = record { inside = omega arith; byte = c.in-47.is; room = omega arith }

pub shape_of-class-in-47 : goal.shape_of-class-in-47
shape_of-class-in-47 c = c.slash.ensures.scanned.moved.as_long

pub returns-in-47 : goal.returns-in-47
returns-in-47 c = c.slash.ensures

pub fence-requires : goal.fence-requires
fence-requires c = record { inside = omega arith; byte = c.in-36.is; room = omega arith }

pub shape_of-class-in-36 : goal.shape_of-class-in-36
shape_of-class-in-36 c = c.fence.ensures.scanned.moved.as_long

pub returns-in-36 : goal.returns-in-36
returns-in-36 c = c.fence.ensures

pub pair-requires : goal.pair-requires
pair-requires c = record { inside = omega arith; room = omega arith }

pub shape_of-class-in-92 : goal.shape_of-class-in-92
shape_of-class-in-92 c = c.pair.ensures.moved.as_long

pub returns-in-92 : goal.returns-in-92
returns-in-92 c = code_escaped _ _ _ (omega arith) (omega arith) _ _ c.in-92.is c.pair.ensures

pub returns-in_default : goal.returns-in_default
returns-in_default c = search (rules, code_passed)
