-- The invariant is `AsciiRun`, whose laws are in proofs/Scan.antt.
use Rattle.std.proofs.Common.{◌-◌, length}
use Rattle.utf8.specs.Places.{high_at, AsciiRun}
use Rattle.utf8.proofs.past_blocks.Given as goal

abbrev pub invariant-loop-i : goal.invariant-loop-i
invariant-loop-i l = AsciiRun l.s l.at l.i

abbrev pub decreases-loop-i : goal.decreases-loop-i
decreases-loop-i l = length l.s - l.i

abbrev pub ghost-any_among : goal.ghost-any_among
ghost-any_among a = high_at a.test.now.0.now

abbrev pub ghost-past_blocks : goal.ghost-past_blocks
ghost-past_blocks a = high_at a.test.now.0.now
