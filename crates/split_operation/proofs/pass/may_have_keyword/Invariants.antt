use Rattle.split_operation.specs.Pass.{keyword_starts_at}
use Rattle.split_operation.proofs.pass.may_have_keyword.Given as goal

abbrev pub ghost-first_by_blocks : goal.ghost-first_by_blocks
ghost-first_by_blocks a = keyword_starts_at a.test.now.0.now
