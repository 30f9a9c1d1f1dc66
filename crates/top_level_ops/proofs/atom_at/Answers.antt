use borrow.Author.Rules.{rules}
use Rattle.top_level_ops.proofs.StepLaws.{atom_operand, atom_some, atom_other}
use Rattle.top_level_ops.proofs.atom_at.Goals.{then-l-ne58-via-then-l-ne58, then-l-ne58-via-else-l-ne58+then-operand}
use Rattle.top_level_ops.proofs.atom_at.Goals as goal

pub returns-then-l-ne58 : goal.returns-then-l-ne58
returns-then-l-ne58 c =
    elim c.then-l-ne58.branch [ then-l-ne58-via-then-l-ne58 w ↦ search (rules, atom_other) | then-l-ne58-via-else-l-ne58+then-operand w ↦ search (rules, atom_operand) ]

pub returns : goal.returns
returns c = search (rules, atom_some)
