use Prim.Native.Nat.{ℕ, ◌+◌, ◌*◌, ◌/◌}
use mathlib.Core.Path.{ap}
use Rattle.brackets.proofs.StackLaws.{entry_put}
use Rattle.brackets.proofs.put_entry.Goals as goal

pub returns : goal.returns
returns c = entry_put _ _ _ _ c.requires _ (ap (λ (n : ℕ). n + 2 * (c.args.line / 256 / 256)) c.from.ensures)
