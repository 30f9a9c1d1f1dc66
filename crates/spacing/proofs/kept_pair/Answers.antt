use borrow.Author.Rules.{rules}
use Rattle.spacing.proofs.KeptLaws.{pair_then, pair_end}
use Rattle.spacing.proofs.kept_pair.Goals as goal

pub returns-then-i-line : goal.returns-then-i-line
returns-then-i-line c = search (rules, pair_then)

pub returns-else-i-line : goal.returns-else-i-line
returns-else-i-line c = search (rules, pair_end)
