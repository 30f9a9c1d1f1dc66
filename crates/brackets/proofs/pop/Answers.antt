use native.Mathlib.Omega.{arith}
use mathlib.Core.Path.{refl}
use Rattle.brackets.proofs.StackLaws.{pop_none, pop_less, pop_turn}
use Rattle.brackets.proofs.pop.Goals as goal

pub returns-then-t-eq0 : goal.returns-then-t-eq0
returns-then-t-eq0 c = pop_none _ _ c.requires c.if-t-eq0.true

pub overflow_sub-result : goal.overflow_sub-result
overflow_sub-result c = omega (arith, pop_less _ _ c.requires c.if-t-eq0.false _ _ refl c.level_of-level.ensures)

pub returns : goal.returns
returns c = pop_turn _ _ c.requires c.if-t-eq0.false _ _ refl c.level_of-level.ensures
