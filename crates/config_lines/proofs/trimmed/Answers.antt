use borrow.Author.Rules.{rules}
use Rattle.config_lines.proofs.PartLaws.{end_well, trimmed_is}
use Rattle.config_lines.proofs.trimmed.Goals as goal

pub trim_end-n-requires : goal.trim_end-n-requires
trim_end-n-requires c = search (rules, end_well)

pub returns : goal.returns
returns c = search (rules, trimmed_is)
