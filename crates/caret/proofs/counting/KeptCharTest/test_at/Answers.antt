use borrow.Author.Rules.{rules}
use Rattle.caret.proofs.ScanLaws.{kept_tested, unkept_tested}
use Rattle.caret.proofs.counting.KeptCharTest.test_at.Goals as goal

pub returns-in-Some : goal.returns-in-Some
returns-in-Some c = unkept_tested _ _ _ c.in-Some.ensures

pub returns-in-None : goal.returns-in-None
returns-in-None c = search (rules, kept_tested)
