use Rattle.scan.proofs.CodeLaws.{code_run}
use Rattle.scan.proofs.plain_code.Goals as goal

pub returns : goal.returns
returns c = code_run _ _ _ _ _ c.requires.room c.plain.ensures.first c.plain.ensures.marked
