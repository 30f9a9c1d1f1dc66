use mathlib.Core.Path.{refl}
use Rattle.text.proofs.StepLaws.{join_done}
use Rattle.text.proofs.join_else.Goals as goal

pub returns : goal.returns
returns c =
    rw c.after_lines.ensures
    (join_done _ _ _ _ _ c.args.line.now _ _ _ _ c.requires.else_line c.requires.cut_le_at c.append-start.ensures c.append-next.ensures refl)
