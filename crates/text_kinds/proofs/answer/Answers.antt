use borrow.Author.Rules.{rules}
use Rattle.text_kinds.proofs.KindsCall.{kinds_told}
use Rattle.text_kinds.proofs.answer.Goals as goal

pub returns : goal.returns
returns c = search (rules, kinds_told)
