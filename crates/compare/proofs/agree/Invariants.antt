use Rattle.compare.specs.Common.{differ_at}
use Rattle.compare.proofs.agree.Given as goal

abbrev pub ghost-first_from : goal.ghost-first_from
ghost-first_from a = differ_at a.test.now.0.now a.test.now.1.now
