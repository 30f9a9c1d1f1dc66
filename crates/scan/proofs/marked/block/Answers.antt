use Rattle.scan.proofs.MarkedLaws.{marked_filled}
use Rattle.scan.proofs.marked.block.Goals as goal

pub returns : goal.returns
returns g c = marked_filled _ _ _ _ _ _ c.requires.span c.fill.ensures
