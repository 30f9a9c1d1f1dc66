use Prim.Native.Nat.{max}
use mathlib.Core.Path.{◌≡◌}
use lib.ListN.{take}
use Rattle.config_read.specs.Refusals.{bytes_of, rank_number, path_rank, worst}
use Rattle.config_read.proofs.refusals.worst_of.Given as goal

abbrev pub invariant-loop-text : goal.invariant-loop-text
invariant-loop-text l = rank_number l.refusal ≡ max (path_rank l.path) (worst (bytes_of (take l.text-index l.texts)))
