use borrow.Author.Rules.{rules}
use Rattle.split_import.proofs.NameLaws.{filling_start, filling_blank, filling_name, filling_end, piece_within}
use Rattle.split_import.proofs.write_names.Goals as goal

pub loop-a-init : goal.loop-a-init
loop-a-init c = search (rules, filling_start)

pub trim_part-p-requires : goal.trim_part-p-requires
trim_part-p-requires c = search (rules, piece_within)

pub loop-a-preserved-then-p : goal.loop-a-preserved-then-p
loop-a-preserved-then-p c = search (rules, filling_blank)

pub loop-a-preserved : goal.loop-a-preserved
loop-a-preserved c = search (rules, filling_name)

pub returns : goal.returns
returns c = search (rules, filling_end)
