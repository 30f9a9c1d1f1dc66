-- `few_names` meets its contract: the invariant is `Counting`, one of the pieces that were given is a name, or none is;
-- its laws are in proofs/NameLaws.antt.
use Rattle.std.specs.Slice.Iter.{split_rest, split_done}
use Rattle.split_import.proofs.NameLaws.{Counting}
use Rattle.split_import.proofs.few_names.Given as goal

abbrev pub invariant-loop-piece : goal.invariant-loop-piece
invariant-loop-piece l = Counting l.s l.some (split_done l.piece-iterator) (split_rest l.piece-iterator)
