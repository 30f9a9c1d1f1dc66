use Rattle.std.proofs.Common.{rules}
use Rattle.config_lines.proofs.KindLaws.{skip_first, skip_not}
use Rattle.config_lines.proofs.kinds.is_skipped.Goals as goal

pub returns-in_default : goal.returns-in_default
returns-in_default c = search (rules, skip_not)

pub returns-in-empty-2 : goal.returns-in-empty-2
returns-in-empty-2 c = search (rules, skip_first)
