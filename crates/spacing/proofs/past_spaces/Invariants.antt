use Rattle.spacing.specs.Respaced.{other_at}
use Rattle.spacing.proofs.past_spaces.Given as goal

abbrev pub ghost-first_by_blocks : goal.ghost-first_by_blocks
ghost-first_by_blocks a = other_at a.test.now.0.now
