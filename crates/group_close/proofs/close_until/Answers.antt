use Rattle.group_close.proofs.ForthLaws.{closing_start, until_more, until_stop, until_end}
use Rattle.group_close.proofs.close_until.Goals as goal

pub loop-o-init : goal.loop-o-init
loop-o-init g c = closing_start _ _ _ _ c.requires.1.1

pub loop-o-preserved : goal.loop-o-preserved
loop-o-preserved g c =
    until_more _ c.loop-o.invariant _ c.loop-o-test.true (c.requires.1.0.1 _ _ c.stop.ensures) c.if-not-stop.true
    c.put-o.ensures

pub returns-else-not-stop : goal.returns-else-not-stop
returns-else-not-stop g c =
    until_stop _ c.loop-o.invariant _ c.loop-o-test.true (c.requires.1.0.1 _ _ c.stop.ensures) c.if-not-stop.false

pub returns-after-loop-o : goal.returns-after-loop-o
returns-after-loop-o g c = until_end _ c.loop-o.invariant c.loop-o-test.false
