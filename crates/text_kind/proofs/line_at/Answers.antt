use mathlib.Core.Path.{◌∙◌}
use Rattle.buffer.proofs.RegionLaws.{part_from}
use Rattle.text_kind.proofs.KindLines.{line_end_last, line_end_more}
use Rattle.text_kind.proofs.line_at.Goals as goal

pub returns-then-end-source : goal.returns-then-end-source
returns-then-end-source c = c.without_cr.ensures ∙ line_end_more _ _ _ c.requires c.if-end-source.true

pub returns-else-end-source : goal.returns-else-end-source
returns-else-end-source c = part_from c.args.source.now c.args.at ∙ line_end_last _ _ _ c.requires c.if-end-source.false
