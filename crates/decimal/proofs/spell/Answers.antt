use borrow.Author.Rules.{rules}
use native.Mathlib.Omega.{arith}
use native.Mathlib.Nat.{mod-lt, div-lt_self}
use Rattle.decimal.proofs.DigitLaws.{spelling_start, spelling_more, spelling_end}
use Rattle.decimal.proofs.spell.Goals as goal

pub loop-rest-init : goal.loop-rest-init
loop-rest-init c = spelling_start _ _ (search rules)

pub overflow_cast-room : goal.overflow_cast-room
overflow_cast-room c = omega (arith, mod-lt c.loop-rest.rest {m = 10} (omega arith))

pub overflow_add-room : goal.overflow_add-room
overflow_add-room c = omega (arith, mod-lt c.loop-rest.rest {m = 10} (omega arith))

pub loop-rest-smaller : goal.loop-rest-smaller
loop-rest-smaller c = div-lt_self (omega arith) (omega arith)

pub loop-rest-preserved : goal.loop-rest-preserved
loop-rest-preserved c = search (rules, spelling_more)

pub returns : goal.returns
returns c = search (rules, spelling_end)
