use Rattle.std.proofs.Common.{rules}
use Rattle.gaps.proofs.ScanLaws.{gap_past}
use Rattle.gaps.proofs.gap_end.Goals as goal

pub returns : goal.returns
returns c = search (rules, gap_past)
