-- `read_lines` meets its contract: the invariant is `Looked`, the lines before `at` are in record, output and scratch,
-- and the check comes to that of the lines left; its laws are in proofs/CheckLaws.antt and LoopLaws.antt.
use Rattle.std.specs.Prelude.{option_copied}
use Prim.Native.Nat.{◌-◌, ◌+◌}
use lib.ListN.{length}
use Rattle.lines.proofs.CheckLaws.{Looked}
use Rattle.lines.proofs.read_lines.Given as goal

abbrev pub invariant-loop-at : goal.invariant-loop-at
invariant-loop-at l = Looked l.source l.indent l.setup.style l.checks (option_copied l.model) l.initial.out l.initial.scratch l.out l.scratch l.st l.at

abbrev pub decreases-loop-at : goal.decreases-loop-at
decreases-loop-at l = length l.source + 1 - l.at
