use borrow.Author.Rules.{rules}
use Rattle.changes.proofs.WalkLaws.{walk_text_fits, walk_text_on}
use Rattle.changes.proofs.WalkLaws.{walk_begin, walk_turn, walk_end}
use Rattle.changes.proofs.write_changes.Goals as goal

pub loop-a-init : goal.loop-a-init
loop-a-init c = search (rules, walk_begin)

pub same_run-k-requires : goal.same_run-k-requires
same_run-k-requires c = search (rules, walk_text_fits)

pub gap_end-b-requires-in-loop-a : goal.gap_end-b-requires-in-loop-a
gap_end-b-requires-in-loop-a c = search (rules, walk_text_on)

pub loop-a-preserved : goal.loop-a-preserved
loop-a-preserved c = search (rules, walk_turn)

pub returns-then-source-a : goal.returns-then-source-a
returns-then-source-a c = search (rules, walk_end)
