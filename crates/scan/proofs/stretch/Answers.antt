use native.Mathlib.Omega.{arith}
use Rattle.scan.proofs.stretch.Goals as goal

pub code-requires : goal.code-requires
code-requires c = record { inside = omega arith; room = omega arith }

pub block-requires : goal.block-requires
block-requires c = record { inside = omega arith; room = omega arith; few = rw c.in-Block.is at c.requires.few }

pub prefab-requires : goal.prefab-requires
prefab-requires c = record { inside = omega arith; room = omega arith }

pub shape_of-class-in-Code : goal.shape_of-class-in-Code
shape_of-class-in-Code c = c.code.ensures.scanned.moved.as_long

pub returns-in-Code : goal.returns-in-Code
returns-in-Code c = rw c.in-Code.is c.code.ensures

pub shape_of-class-in-Block : goal.shape_of-class-in-Block
shape_of-class-in-Block c = c.block.ensures.scanned.moved.as_long

pub returns-in-Block : goal.returns-in-Block
returns-in-Block c = rw c.in-Block.is c.block.ensures

pub shape_of-class-in-Prefab : goal.shape_of-class-in-Prefab
shape_of-class-in-Prefab c = c.prefab.ensures.scanned.moved.as_long

pub returns-in-Prefab : goal.returns-in-Prefab
returns-in-Prefab c = rw c.in-Prefab.is c.prefab.ensures
