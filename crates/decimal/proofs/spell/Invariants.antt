-- `spell` meets its contract: the invariant is `Spelling`, the digits of `rest` and then what stands from i on are
-- those of n; its laws are in proofs/DigitLaws.antt.
use Rattle.decimal.proofs.DigitLaws.{Spelling}
use Rattle.decimal.proofs.spell.Given as goal

abbrev pub invariant-loop-rest : goal.invariant-loop-rest
invariant-loop-rest l = Spelling l.n l.initial.room l.room l.i l.rest

abbrev pub decreases-loop-rest : goal.decreases-loop-rest
decreases-loop-rest l = l.rest
