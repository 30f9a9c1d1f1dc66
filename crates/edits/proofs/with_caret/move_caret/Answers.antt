use Rattle.rules.proofs.RefusalLaws.{handed_on}
use mathlib.Core.Path.{sym}
use lib.Seq.{length-take-le}
use Rattle.edits.proofs.TextLaws.{text_fits, alike}
use Rattle.edits.proofs.CaretCalls.{caret_stopped, caret_none, caret_goes}
use Rattle.edits.proofs.with_caret.move_caret.Goals as goal

pub returns-in_err-text : goal.returns-in_err-text
returns-in_err-text c = rw (handed_on c.from_residual.result _ c.from_residual.ensures) (caret_stopped _ _ _ _ _ _ c.in_err-text.ensures)

pub slice_bounds-taken-end : goal.slice_bounds-taken-end
slice_bounds-taken-end c = text_fits _ _ _ _ c.in_ok-text.ensures

pub slice_bounds-taken-end-2 : goal.slice_bounds-taken-end-2
slice_bounds-taken-end-2 c = sym (length-take-le _ _ (text_fits _ _ _ _ c.in_ok-text.ensures))

pub caret_in_text-requires : goal.caret_in_text-requires
caret_in_text-requires c = alike _ _ _ _ c.in_ok-text.ensures

pub returns-in-Some : goal.returns-in-Some
returns-in-Some c = caret_goes _ _ _ _ _ _ c.in_ok-text.ensures _ c.in-Some.ensures

pub returns-in-None : goal.returns-in-None
returns-in-None c = caret_none _ _ _ _ _ _ c.in_ok-text.ensures _ c.in-None.ensures c.zero.ensures
