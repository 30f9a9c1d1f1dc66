-- `text_kind::text_kind_at` meets its contract: the invariant is `Seeking`, whose laws are in proofs/KindLines.antt.
use Prim.Native.Nat.{◌-◌}
use Rattle.text_kind.proofs.KindLines.{Seeking}
use Rattle.text_kind.proofs.text_kind_at.Given as goal

abbrev pub invariant-loop : goal.invariant-loop
invariant-loop l = Seeking l.source l.line l.column.0 l.initial.scratch l.scratch l.carry l.at (l.line - l.counter)
