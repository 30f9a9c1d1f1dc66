-- `set_ends` meets its contract: the invariant is `Ending`, from i on each place has the distance of its `]`, and two
-- running values tell it for i, escaped and not; its laws are in proofs/ReadLaws.antt.
use Rattle.glob_name.proofs.ReadLaws.{Ending}
use Rattle.glob_name.proofs.read.set_ends.Given as goal

abbrev pub invariant-loop-i : goal.invariant-loop-i
invariant-loop-i l = Ending l.chars l.i l.plain l.escaped l.ends
