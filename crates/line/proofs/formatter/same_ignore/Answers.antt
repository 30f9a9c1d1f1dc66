use mathlib.Core.Path.{sym}
use Rattle.line.proofs.formatter.same_ignore.Goals as goal

pub returns-in-Block : goal.returns-in-Block
returns-in-Block c = sym c.in-Block.is
