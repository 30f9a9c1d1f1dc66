use borrow.Author.Rules.{rules}
use Rattle.caret.proofs.ScanLaws.{past_begin, past_found, past_missing, past_tested}
use Rattle.caret.proofs.BlockLaws.{past_block}
use Rattle.caret.proofs.past_nth.Goals as goal

pub loop-missing-init : goal.loop-missing-init
loop-missing-init g c = search (rules, past_begin)

pub loop-missing-preserved-then-more-missing : goal.loop-missing-preserved-then-more-missing
loop-missing-preserved-then-more-missing g c = past_block _ _ _ _ _ _ c.loop-missing.invariant c.in-Some.ensures c.if-more-missing.true

pub loop-missing-preserved : goal.loop-missing-preserved
loop-missing-preserved g c = search (rules, past_tested)

pub returns-else-at-s : goal.returns-else-at-s
returns-else-at-s g c = search (rules, past_missing)

pub returns-after-loop-missing : goal.returns-after-loop-missing
returns-after-loop-missing g c = search (rules, past_found)
