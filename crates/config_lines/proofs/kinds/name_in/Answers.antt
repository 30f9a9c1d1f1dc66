use Rattle.std.proofs.Common.{rules}
use Rattle.config_lines.proofs.KindLaws.{header_short, header_first, header_last, header_is}
use Rattle.config_lines.proofs.kinds.name_in.Goals as goal
use Rattle.config_lines.proofs.kinds.name_in.Goals.{in_default-via-then-line-lt2, in_default-via-else-line-lt2+in-91+in_default-1, in_default-via-else-line-lt2+in_default-1}

pub returns-in-91 : goal.returns-in-91
returns-in-91 c = search (rules, header_is)

pub returns-in_default : goal.returns-in_default
returns-in_default c =
    elim c.in_default.branch [
      | in_default-via-then-line-lt2 w ↦ search (rules, header_short)
      | in_default-via-else-line-lt2+in-91+in_default-1 w ↦ search (rules, header_last)
      | in_default-via-else-line-lt2+in_default-1 w ↦ search (rules, header_first)
    ]
