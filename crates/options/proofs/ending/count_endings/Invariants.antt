-- The invariant is `Counted` of the bytes up to `b-index`; its laws are in proofs/EndingLaws.antt.
use Rattle.std.proofs.Common.{take}
use Rattle.options.specs.Endings.{Counted}
use Rattle.options.proofs.ending.count_endings.Given as goal

abbrev pub invariant-loop-b : goal.invariant-loop-b
invariant-loop-b l = Counted (take l.b-index l.block) l.last l.lf l.crlf l.before
