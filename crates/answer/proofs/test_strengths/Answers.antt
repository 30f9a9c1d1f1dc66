use borrow.Author.Rules.{rules}
use Rattle.answer.proofs.TestLaws.{bits_set_law, bits_clear}
use Rattle.answer.proofs.test_strengths.Goals as goal

pub returns-then-table-ne0 : goal.returns-then-table-ne0
returns-then-table-ne0 c = search (rules, bits_set_law)

pub returns : goal.returns
returns c = search (rules, bits_clear)
