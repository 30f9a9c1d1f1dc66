-- `write_names` meets its contract: the invariant is `Filling`, the names before byte a are filled into lines, which
-- are written, and f has the place and the column reached; its laws are in proofs/NameLaws.antt.
use Prim.Native.Nat.{◌+◌, ◌-◌}
use lib.ListN.{length}
use Rattle.rules.specs.Lines.{as_str}
use Rattle.split_import.proofs.NameLaws.{Filling}
use Rattle.split_import.proofs.write_names.Given as goal

abbrev pub invariant-loop-a : goal.invariant-loop-a
invariant-loop-a l = Filling l.s.ruler l.names l.indent l.s.level (as_str l.s.ending) l.s.max.0 l.model l.initial.out l.at l.out l.f l.blanks l.a

abbrev pub decreases-loop-a : goal.decreases-loop-a
decreases-loop-a l = length l.names + 1 - l.a
