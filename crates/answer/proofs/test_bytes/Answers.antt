use borrow.Author.Rules.{rules}
use Rattle.answer.proofs.TestLaws.{not_utf8, bytes_pass}
use Rattle.answer.proofs.test_bytes.Goals as goal

pub returns-then-prefix-n : goal.returns-then-prefix-n
returns-then-prefix-n c = search (rules, not_utf8)

pub returns : goal.returns
returns c = search (rules, bytes_pass)
