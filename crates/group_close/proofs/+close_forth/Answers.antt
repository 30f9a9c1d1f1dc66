use borrow.Author.Rules.{rules}
use Rattle.group_close.proofs.ForthLaws.{forthing_start, forthing_more}
use Rattle.group_close.proofs.+close_forth.Goals as goal

pub loop-s-init : goal.loop-s-init
loop-s-init t c = search (rules, forthing_start)

pub loop-s-preserved-then-enters : goal.loop-s-preserved-then-enters
loop-s-preserved-then-enters t c = forthing_more (forthing_more (forthing_more c.loop-s.invariant c.step_forth-s.ensures.0) c.close_forth-s.ensures) c.past_one-s.ensures

pub loop-s-preserved : goal.loop-s-preserved
loop-s-preserved t c = forthing_more c.loop-s.invariant c.step_forth-s.ensures.0
