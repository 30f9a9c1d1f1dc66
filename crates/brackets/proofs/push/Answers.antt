use mathlib.Core.Path.{refl}
use native.Mathlib.Omega.{arith}
use Rattle.brackets.proofs.StackLaws.{levels_room, push_turn}
use Rattle.brackets.proofs.push.Goals as goal

pub overflow_add-result-2 : goal.overflow_add-result-2
overflow_add-result-2 c = omega (arith, levels_room _ _ c.requires _ _ c.from.ensures)

pub returns : goal.returns
returns c = push_turn _ _ c.requires _ _ _ _ refl refl c.from.ensures c.put_entry.ensures
