-- `count_chars` meets its contract: the invariant is `CountScan`, n characters before byte i pass the test; its laws
-- are in proofs/ScanLaws.antt.
use Prim.Native.Nat.{◌-◌}
use lib.ListN.{length}
use Rattle.caret.proofs.ScanLaws.{CountScan}
use Rattle.caret.proofs.count_chars.Given as goal

abbrev pub invariant-loop-i : goal.invariant-loop-i
invariant-loop-i g l = CountScan g.T.CharTest.meets l.s l.n l.i

abbrev pub decreases-loop-i : goal.decreases-loop-i
decreases-loop-i g l = length l.s - l.i
