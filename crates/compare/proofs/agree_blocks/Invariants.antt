use Rattle.compare.specs.Common.{differ_at}
use Rattle.compare.proofs.agree_blocks.Given as goal

abbrev pub ghost-past_blocks : goal.ghost-past_blocks
ghost-past_blocks a = differ_at a.test.now.0.now a.test.now.1.now
