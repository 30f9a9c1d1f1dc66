use borrow.Author.Rules.{rules}
use Rattle.gaps.proofs.ScanLaws.{gap_byte}
use Rattle.gaps.proofs.is_gap_byte.Goals as goal

pub returns : goal.returns
returns c = search (rules, gap_byte)
