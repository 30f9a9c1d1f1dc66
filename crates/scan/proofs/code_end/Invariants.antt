use Rattle.scan.specs.CodeEnd.{comment_at}
use Rattle.scan.proofs.code_end.Given as goal

abbrev pub ghost-first_from : goal.ghost-first_from
ghost-first_from a = comment_at a.test.now.0.now
