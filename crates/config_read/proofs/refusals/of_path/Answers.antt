use borrow.Author.Rules.{rules}
use Rattle.config_read.proofs.RefusalLaws.{path_ill, path_well}
use Rattle.config_read.proofs.refusals.of_path.Goals as goal

pub returns-then-well_formed_prefix-path : goal.returns-then-well_formed_prefix-path
returns-then-well_formed_prefix-path c = search (rules, path_ill)

pub returns : goal.returns
returns c = search (rules, path_well)
