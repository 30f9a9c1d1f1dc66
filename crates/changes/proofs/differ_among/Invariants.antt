use Rattle.changes.specs.Passing.{differ_at}
use Rattle.changes.proofs.differ_among.Given as goal

abbrev pub ghost-any_among : goal.ghost-any_among
ghost-any_among a = differ_at a.test.now.0.now a.test.now.1.now
