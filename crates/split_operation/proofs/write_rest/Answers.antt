use borrow.Author.Rules.{rules}
use Rattle.split_operation.proofs.OperationLaws.{writing_start, writing_within, writing_more, writing_end}
use Rattle.split_operation.proofs.write_rest.Goals as goal

pub loop-c-init : goal.loop-c-init
loop-c-init c = search (rules, writing_start)

pub trim_part-p-requires : goal.trim_part-p-requires
trim_part-p-requires c = search (rules, writing_within)

pub loop-c-preserved : goal.loop-c-preserved
loop-c-preserved c = search (rules, writing_more)

pub returns : goal.returns
returns c = search (rules, writing_end)
