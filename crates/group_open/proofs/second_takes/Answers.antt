use Rattle.group_open.proofs.BackLaws.{second_less, second_equal, second_more}
use Rattle.group_open.proofs.second_takes.Goals as goal

pub returns-then-s-t : goal.returns-then-s-t
returns-then-s-t c = second_less _ _ c.if-s-t.true

pub returns-then-s-t-2 : goal.returns-then-s-t-2
returns-then-s-t-2 c = second_equal _ _ c.if-s-t.false c.if-s-t-2.true

pub returns-else-s-t-2 : goal.returns-else-s-t-2
returns-else-s-t-2 c = second_more _ _ c.if-s-t.false c.if-s-t-2.false
