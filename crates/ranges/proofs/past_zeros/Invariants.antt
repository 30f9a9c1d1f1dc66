use Rattle.ranges.proofs.EndLaws.{nonzero_at}
use Rattle.ranges.proofs.past_zeros.Given as goal

abbrev pub ghost-first_from : goal.ghost-first_from
ghost-first_from a = nonzero_at a.test.now.0.now
