use borrow.Author.Rules.{rules}
use Rattle.top_level_ops.proofs.StepLaws.{atom_first}
use Rattle.top_level_ops.proofs.atom_len.Goals as goal

pub returns : goal.returns
returns c = search (rules, atom_first)
