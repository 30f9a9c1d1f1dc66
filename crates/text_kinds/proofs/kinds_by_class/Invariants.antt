-- `kinds_by_class` meets its contract: the invariant is `Telling`, the entries from k up to `next` have their kinds and no
-- `$` stands before `clear`; its laws are in proofs/LineLaws.antt.
use Prim.Native.Nat.{◌-◌}
use Rattle.text_kinds.specs.Reading.{place_count}
use Rattle.text_kinds.proofs.LineLaws.{Telling}
use Rattle.text_kinds.proofs.kinds_by_class.Given as goal

abbrev pub invariant-loop-told : goal.invariant-loop-told
invariant-loop-told l = Telling l.line l.class l.number l.places l.initial.next l.initial.kinds l.next l.clear l.kinds

abbrev pub decreases-loop-told : goal.decreases-loop-told
decreases-loop-told l = place_count l.places - l.next
