use borrow.Author.Rules.{rules}
use Rattle.spacing.proofs.SpacingLaws.{reached_kept, reached_plain, reached_run, reached_more, reached_end}
use Rattle.spacing.proofs.respace.Goals as goal

pub loop-i-init : goal.loop-i-init
loop-i-init c = reached_kept _ _ _ _ c.requires.keeping c.requires.copied

pub loop-i-preserved-then-is_plain : goal.loop-i-preserved-then-is_plain
loop-i-preserved-then-is_plain c = search (rules, reached_plain)

pub loop-i-preserved-then-is_dropped : goal.loop-i-preserved-then-is_dropped
loop-i-preserved-then-is_dropped c = search (rules, reached_run)

pub loop-i-preserved : goal.loop-i-preserved
loop-i-preserved c = search (rules, reached_more)

pub returns : goal.returns
returns c = search (rules, reached_end)
