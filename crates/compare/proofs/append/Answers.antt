use Rattle.compare.proofs.WriterLaws.{compared_out}
use borrow.Author.Rules.{rules}
use Rattle.compare.proofs.append.Goals as goal

pub returns-then-model-eq0 : goal.returns-then-model-eq0
returns-then-model-eq0 c = search (rules, compared_out)
