use borrow.Author.Rules.{rules}
use Rattle.buffer.proofs.WriteLaws.{finishes_from}
use mathlib.Core.Path.{refl, sym}
use lib.Seq.{length-take-le}
use Rattle.edits.proofs.TextLaws.{text_fits, alike}
use Rattle.edits.proofs.ChangesCalls.{changes_stopped, changes_short, changes_given}
use Rattle.edits.proofs.with_changes.list_changes.Goals as goal

pub returns-in-Err : goal.returns-in-Err
returns-in-Err c = changes_stopped _ _ _ _ _ _ c.in-Err.ensures (search rules)

pub slice_bounds-write_changes-end : goal.slice_bounds-write_changes-end
slice_bounds-write_changes-end c = text_fits _ _ _ _ c.in-Ok.ensures

pub write_changes-n-requires : goal.write_changes-n-requires
write_changes-n-requires c = alike _ _ _ _ c.in-Ok.ensures

pub returns-then-list-n : goal.returns-then-list-n
returns-then-list-n c =
    changes_short _ _ _ _ _ c.in-Ok.ensures _ _ _ refl c.write_changes-n.ensures _ _ c.if-list-n.true c.zero.ensures (search rules)

pub slice_bounds-write_changes-end-in-Ok : goal.slice_bounds-write_changes-end-in-Ok
slice_bounds-write_changes-end-in-Ok c = sym (length-take-le _ _ (text_fits _ _ _ _ c.in-Ok.ensures))

pub returns-else-list-n : goal.returns-else-list-n
returns-else-list-n c =
    changes_given _ _ _ _ _ c.in-Ok.ensures _ _ _ refl c.write_changes-n.ensures _ c.if-list-n.false (search (rules, finishes_from))
