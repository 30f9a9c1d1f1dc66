use Rattle.changes.proofs.WalkLaws.{note_same, note_other}
use borrow.Author.Rules.{rules}
use Rattle.changes.proofs.note_gap.Goals as goal

pub returns-then-same : goal.returns-then-same
returns-then-same c = search (rules, note_same)

pub returns : goal.returns
returns c = search (rules, note_other)
