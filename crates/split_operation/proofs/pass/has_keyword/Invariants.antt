-- `has_keyword` meets its contract: the invariant is `WordsAt` of proofs/WordLaws.antt, no keyword ends before i.
use Rattle.split_operation.proofs.WordLaws.{WordsAt}
use Rattle.split_operation.proofs.pass.has_keyword.Given as goal

abbrev pub invariant-loop-i : goal.invariant-loop-i
invariant-loop-i l = WordsAt l.line l.class l.start l.i
