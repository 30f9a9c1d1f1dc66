use Rattle.gaps.proofs.ScanLaws.{unkept_comma, unkept_white}
use borrow.Author.Rules.{rules}
use Rattle.gaps.proofs.unkept_at.Goals as goal

pub returns-then-s-i-eq44 : goal.returns-then-s-i-eq44
returns-then-s-i-eq44 c = search (rules, unkept_comma)

pub returns-else-s-i-eq44 : goal.returns-else-s-i-eq44
returns-else-s-i-eq44 c = search (rules, unkept_white)
