use borrow.Author.Rules.{rules}
use Rattle.format.proofs.MarkerLaws.{code_by}
use Rattle.format.proofs.marker.has_code.Goals as goal

pub returns : goal.returns
returns c = search (rules, code_by)
