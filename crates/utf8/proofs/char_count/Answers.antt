use Rattle.std.proofs.Common.{◌∙◌}
use Rattle.utf8.proofs.Bytewise.{count_bytes}
use Rattle.utf8.proofs.char_count.Goals as goal

pub returns : goal.returns
returns c = c.total.ensures ∙ count_bytes _ c.requires
