use Rattle.text_kinds.proofs.KindsCall.{source_refused, source_passed}
use borrow.Author.Rules.{rules}
use Rattle.text_kinds.proofs.test.Goals as goal

pub returns-in_err-test : goal.returns-in_err-test
returns-in_err-test c = search (rules, source_refused)

pub returns : goal.returns
returns c = search (rules, source_passed)
