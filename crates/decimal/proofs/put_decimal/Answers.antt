use borrow.Author.Rules.{rules}
use Rattle.decimal.proofs.DigitLaws.{digits_short, decimal_put}
use Rattle.decimal.proofs.put_decimal.Goals as goal

pub spell-from-requires : goal.spell-from-requires
spell-from-requires c = digits_short _ (search rules)

pub returns : goal.returns
returns c = decimal_put _ _ _ _ 20 _ _ _ (search rules) c.spell-from.ensures (search rules) c.append.ensures
