-- `replay::room` meets its contract by the law on repeats: to compute the length of so many zeros would be too deep.
use Prim.Native.Nat.{ℕ}
use mathlib.Core.Path.{sym}
use lib.ListN.{length-replicate}
use Rattle.replay.proofs.room.Goals as goal

pub returns : goal.returns
returns c = sym (length-replicate {A = ℕ} 1048576 0)
