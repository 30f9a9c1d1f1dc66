use Rattle.scan.proofs.CodeEnd.{no_comment}
use Rattle.scan.proofs.has_no_comment.Goals as goal

pub returns-then-n-ge16 : goal.returns-then-n-ge16
returns-then-n-ge16 c = no_comment _ _ c.none_before.ensures
