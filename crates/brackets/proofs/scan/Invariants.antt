-- `scan` meets its contract: the invariant is `Scanning`, the stack and the tally are those before byte i, and the
-- bytes from i on make of them what the line makes; its laws are in proofs/StackLaws.antt.
use Prim.Native.Nat.{◌-◌}
use lib.ListN.{length}
use Rattle.brackets.proofs.StackLaws.{Scanning}
use Rattle.brackets.proofs.scan.Given as goal

abbrev pub invariant-loop-i : goal.invariant-loop-i
invariant-loop-i g l = Scanning l.line l.class l.initial.stack l.fn.b l.skip l.stack l.t l.i

abbrev pub decreases-loop-i : goal.decreases-loop-i
decreases-loop-i g l = length l.line - l.i
