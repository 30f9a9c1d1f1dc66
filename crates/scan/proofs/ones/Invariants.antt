-- `ones` meets its contract: the invariant is `Scanned` of specs/Stretch.antt, the line is classified as code up to i;
-- its laws are in proofs/ScannedLaws.antt and CodeLaws.antt.
use Prim.Native.Nat.{◌-◌}
use lib.ListN.{length}
use Rattle.rules.specs.declared.Mode.{Mode}
use Rattle.scan.specs.Stretch.{Scanned, fresh}
use Rattle.scan.proofs.ones.Given as goal

abbrev pub invariant-loop-i : goal.invariant-loop-i
invariant-loop-i l = Scanned l.line (fresh Mode.Code) l.at l.initial.class (fresh Mode.Code) l.i l.class

abbrev pub decreases-loop-i : goal.decreases-loop-i
decreases-loop-i l = length l.line - l.i
