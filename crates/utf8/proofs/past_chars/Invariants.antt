-- The invariant is `CharScan`, whose laws, one for each way through a turn, are in proofs/CharScan.antt.
use Rattle.std.proofs.Common.{◌-◌, length}
use Rattle.utf8.proofs.CharScan.{CharScan}
use Rattle.utf8.proofs.past_chars.Given as goal

abbrev pub invariant-loop-i : goal.invariant-loop-i
invariant-loop-i g l = CharScan g.takes l.s l.fn.from l.i

abbrev pub decreases-loop-i : goal.decreases-loop-i
decreases-loop-i g l = length l.s - l.i
