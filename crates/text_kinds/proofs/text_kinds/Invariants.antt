-- `text_kinds` meets its contract: the invariant is `Read` of specs/Reading.antt, the lines before p are read and the
-- entries before its next have their kinds; its laws are in proofs/ReadLaws.antt.
use Prim.Native.Nat.{◌+◌, ◌-◌}
use mathlib.Core.Path.{◌≡◌}
use lib.ListN.{length}
use Rattle.text_kinds.specs.Reading.{Read}
use Rattle.text_kinds.proofs.text_kinds.Given as goal

abbrev pub invariant-loop-p : goal.invariant-loop-p
invariant-loop-p l = Read l.source l.places l.kinds l.p × (length l.kinds ≡ length l.initial.kinds) × (length l.scratch ≡ length l.initial.scratch)

abbrev pub decreases-loop-p : goal.decreases-loop-p
decreases-loop-p l = length l.source + 1 - l.p.at
