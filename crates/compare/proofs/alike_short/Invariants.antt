use Rattle.compare.specs.Common.{differ_at}
use Rattle.compare.proofs.alike_short.Given as goal

abbrev pub ghost-none_before : goal.ghost-none_before
ghost-none_before a = differ_at a.test.now.0.now a.test.now.1.now
