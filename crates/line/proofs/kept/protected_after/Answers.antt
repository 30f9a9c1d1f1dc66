use borrow.Author.Rules.{rules}
use Rattle.line.proofs.KeptLaws.{guards_nothing, guards_next, guards_block}
use Rattle.line.proofs.kept.protected_after.Goals as goal

pub returns-in-Nothing : goal.returns-in-Nothing
returns-in-Nothing c = search (rules, guards_nothing)

pub returns-in-NextLine : goal.returns-in-NextLine
returns-in-NextLine c = search (rules, guards_next)

pub returns-in-Block : goal.returns-in-Block
returns-in-Block c = search (rules, guards_block)
