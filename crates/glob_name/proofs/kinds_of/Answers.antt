use borrow.Author.Rules.{rules}
use Rattle.glob_name.proofs.SettledLaws.{right_short, settled_held}
use Rattle.glob_name.proofs.kinds_of.Goals as goal

pub mark_left-requires : goal.mark_left-requires
mark_left-requires c = search (rules, right_short)

pub returns : goal.returns
returns c = settled_held _ _ _ _ c.raw_kinds.ensures c.mark_right.ensures c.mark_left.ensures
