-- `answer_place` meets its contract: the invariant is `Answering`, the entries from k up to `next` are this place and
-- have its kind; its laws are in proofs/FillLaws.antt.
use Prim.Native.Nat.{◌-◌}
use Rattle.text_kinds.specs.Reading.{place_count}
use Rattle.text_kinds.proofs.FillLaws.{Answering}
use Rattle.text_kinds.proofs.answer_place.Given as goal

abbrev pub invariant-loop-place : goal.invariant-loop-place
invariant-loop-place l =
    Answering l.places l.place.line l.place.column l.kind l.initial.next l.initial.kinds l.next l.kinds

abbrev pub decreases-loop-place : goal.decreases-loop-place
decreases-loop-place l = place_count l.places - l.next
