use Rattle.scan.proofs.CodeLaws.{comment_run}
use Rattle.scan.proofs.plain_comment.Goals as goal

pub returns : goal.returns
returns c = comment_run _ _ _ _ _ c.requires.room c.plain.ensures.first c.plain.ensures.marked
