use Rattle.std.proofs.Common.{rules, refl}
use Rattle.config_lines.proofs.KindLaws.{kind_skipped, kind_header, kind_other, kind_pair}
use Rattle.config_lines.proofs.kinds.kind_of.Goals as goal

pub returns-then-is_skipped : goal.returns-then-is_skipped
returns-then-is_skipped c = search (rules, kind_skipped)

pub returns-in-Some : goal.returns-in-Some
returns-in-Some c = kind_header _ c.requires _ c.is_skipped.ensures c.if-is_skipped.false _ c.in-Some.ensures

pub returns-in_err-i : goal.returns-in_err-i
returns-in_err-i c = rw c.from_residual.ensures (kind_other _ c.requires _ c.is_skipped.ensures c.if-is_skipped.false c.in_default.ensures c.in_err-i.ensures)

pub returns : goal.returns
returns c = kind_pair _ c.requires _ c.is_skipped.ensures c.if-is_skipped.false c.in_default.ensures _ c.in_ok-i.ensures _ _ refl refl
