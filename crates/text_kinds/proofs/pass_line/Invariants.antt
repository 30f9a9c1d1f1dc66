-- `pass_line` meets its contract: the invariant is `Passing`, the zeros of the entries from k up to `next` are their
-- kinds, since they stand past the line's end; its laws are in proofs/FillLaws.antt.
use Prim.Native.Nat.{◌-◌}
use Rattle.text_kinds.specs.Reading.{place_count}
use Rattle.text_kinds.proofs.FillLaws.{Passing}
use Rattle.text_kinds.proofs.pass_line.Given as goal

abbrev pub invariant-loop-next : goal.invariant-loop-next
invariant-loop-next l = Passing l.places l.line l.initial.next l.next

abbrev pub decreases-loop-next : goal.decreases-loop-next
decreases-loop-next l = place_count l.places - l.next
