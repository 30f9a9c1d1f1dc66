use mathlib.Core.Path.{sym}
use Rattle.scan.proofs.CodeEnd.{comment_found}
use Rattle.scan.proofs.code_end.Goals as goal

pub returns-then-has_no_comment : goal.returns-then-has_no_comment
returns-then-has_no_comment c = sym (c.has_no_comment.ensures.none c.if-has_no_comment.true)

pub returns : goal.returns
returns c = comment_found _ _ c.first_from.ensures
