use Rattle.glob_name.proofs.ReadLaws.{range_none, range_other, range_both, dots_inside}
use Rattle.glob_name.proofs.read.range_more.Goals as goal

pub returns-in_err-m : goal.returns-in_err-m
returns-in_err-m c = rw c.from_residual.ensures (range_none _ _ c.in_err-m.ensures)

pub range_rest-requires : goal.range_rest-requires
range_rest-requires c = (dots_inside _ _ _ _ _ c.char_is-2.ensures c.if-char_is.true, c.requires.1)

pub returns-then-char_is : goal.returns-then-char_is
returns-then-char_is c = range_both _ _ _ c.in_ok-m.ensures _ _ c.char_is.ensures c.char_is-2.ensures c.if-char_is.true _ c.range_rest.ensures

pub returns-else-char_is : goal.returns-else-char_is
returns-else-char_is c = range_other _ _ _ c.in_ok-m.ensures _ _ c.char_is.ensures c.char_is-2.ensures c.if-char_is.false
