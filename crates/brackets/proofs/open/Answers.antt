use native.Mathlib.Omega.{arith}
use Rattle.brackets.proofs.StackLaws.{open_room, open_done}
use Rattle.brackets.proofs.open.Goals as goal

pub push-t-requires : goal.push-t-requires
push-t-requires c = open_room _ _ _ _ _ _ c.requires c.split_at_mut-stack.ensures.back (omega arith)

pub returns : goal.returns
returns c = open_done _ _ _ _ _ (omega (arith, c.requires.stack)) c.split_at_mut-stack.ensures.front c.split_at_mut-stack.ensures.back _ _ c.push-t.ensures
