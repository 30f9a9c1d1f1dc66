-- `leading_closers` meets its contract: its law is in proofs/StackLaws.antt.
use Rattle.brackets.specs.Stack.{solid_at}
use Rattle.brackets.proofs.leading_closers.Given as goal

abbrev pub ghost-first_from : goal.ghost-first_from
ghost-first_from a = solid_at a.test.now.0.now
