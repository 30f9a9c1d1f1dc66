-- `text_of` meets its contract. The loop: i characters are written, and left is the number of the others.
use Rattle.short_texts.proofs.StepLaws.{Spelling}
use Rattle.short_texts.proofs.text_of.Given as goal

abbrev pub invariant-loop-i : goal.invariant-loop-i
invariant-loop-i l = Spelling l.size l.number l.t l.left l.w l.i
