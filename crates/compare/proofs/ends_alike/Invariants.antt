use Rattle.compare.specs.Common.{differ_at}
use Rattle.compare.proofs.ends_alike.Given as goal

abbrev pub ghost-any_among : goal.ghost-any_among
ghost-any_among a = differ_at a.test.now.0.now a.test.now.1.now
