-- `atom_len` meets its contract: its law is in proofs/StepLaws.antt.
use Rattle.top_level_ops.specs.Steps.{atom_ends_at}
use Rattle.top_level_ops.proofs.atom_len.Given as goal

abbrev pub ghost-first_from : goal.ghost-first_from
ghost-first_from a = atom_ends_at a.test.now.0.now
