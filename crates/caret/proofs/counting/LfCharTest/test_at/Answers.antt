use borrow.Author.Rules.{rules}
use Rattle.caret.proofs.ScanLaws.{lf_tested}
use Rattle.caret.proofs.counting.LfCharTest.test_at.Goals as goal

pub returns : goal.returns
returns c = search (rules, lf_tested)
