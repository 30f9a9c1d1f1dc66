use Rattle.std.proofs.Common.{rules}
use Rattle.config_lines.proofs.ValueLaws.{tab_is}
use Rattle.config_lines.proofs.values.tab_of.Goals as goal

pub returns : goal.returns
returns c = search (rules, tab_is)
