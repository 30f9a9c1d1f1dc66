use Rattle.scan.proofs.StringLaws.{string_run}
use Rattle.scan.proofs.plain_string.Goals as goal

pub returns : goal.returns
returns c = string_run _ _ _ _ _ c.requires.room c.plain.ensures.first c.plain.ensures.marked
