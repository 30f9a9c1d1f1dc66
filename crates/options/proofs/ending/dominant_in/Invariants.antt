-- The invariant is `CountedTo` what the iterator has left; its laws are in proofs/EndingLaws.antt.
use Rattle.std.specs.Slice.Iter.{chunks_rest, chunks_size}
use Rattle.std.proofs.Common.{◌≡◌}
use Rattle.options.proofs.EndingLaws.{CountedTo}
use Rattle.options.proofs.ending.dominant_in.Given as goal

abbrev pub invariant-loop-block : goal.invariant-loop-block
invariant-loop-block l = (chunks_size l.block-iterator ≡ 240) × CountedTo l.source (chunks_rest l.block-iterator) l.lf l.crlf l.last
