use Rattle.text.proofs.StepLaws.{end_done}
use borrow.Author.Rules.{rules}
use Rattle.text.proofs.end_text.Goals as goal

pub returns : goal.returns
returns c = search (rules, end_done)
