use borrow.Author.Rules.{rules}
use Rattle.text.proofs.StepLaws.{continue_done}
use Rattle.text.proofs.continue_text.Goals as goal

pub returns : goal.returns
returns c = search (rules, continue_done)
