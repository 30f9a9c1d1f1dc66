use Rattle.compare.specs.Common.{differ_at}
use Rattle.compare.proofs.alike.Given as goal

abbrev pub ghost-none_before : goal.ghost-none_before
ghost-none_before a = differ_at a.test.now.0.now a.test.now.1.now

abbrev pub ghost-none_in_four : goal.ghost-none_in_four
ghost-none_in_four a = differ_at a.test.now.0.now a.test.now.1.now

abbrev pub ghost-none_in_four-2 : goal.ghost-none_in_four-2
ghost-none_in_four-2 a = differ_at a.test.now.0.now a.test.now.1.now

abbrev pub ghost-none_in_four-3 : goal.ghost-none_in_four-3
ghost-none_in_four-3 a = differ_at a.test.now.0.now a.test.now.1.now
