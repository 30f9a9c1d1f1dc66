use borrow.Author.Rules.{rules}
use Rattle.compare.proofs.CommonLaws.{ending_lf, ending_crlf}
use Rattle.compare.proofs.ending_alike.Goals as goal

pub returns-in-Some-Lf : goal.returns-in-Some-Lf
returns-in-Some-Lf c = search (rules, ending_lf)

pub returns-then-model-at-eq13 : goal.returns-then-model-at-eq13
returns-then-model-at-eq13 c = search (rules, ending_crlf)
