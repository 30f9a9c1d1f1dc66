use Rattle.scan.specs.CodeEnd.{comment_at}
use Rattle.scan.proofs.has_no_comment.Given as goal

abbrev pub ghost-none_before : goal.ghost-none_before
ghost-none_before a = comment_at a.test.now.0.now
