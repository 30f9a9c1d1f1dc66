-- `past_nth` meets its contract: the invariant is `PastScan`, `missing` of the n characters are still to be passed from
-- byte `at` on; its laws are in proofs/ScanLaws.antt.
use Prim.Native.Nat.{◌-◌}
use lib.ListN.{length}
use Rattle.caret.proofs.ScanLaws.{PastScan}
use Rattle.caret.proofs.past_nth.Given as goal

abbrev pub invariant-loop-missing : goal.invariant-loop-missing
invariant-loop-missing g l = PastScan g.T.CharTest.meets l.n l.s l.missing l.at

abbrev pub decreases-loop-missing : goal.decreases-loop-missing
decreases-loop-missing g l = length l.s - l.at
