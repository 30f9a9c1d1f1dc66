use borrow.Author.Rules.{rules}
use Rattle.spacing.proofs.KeptLaws.{kept_char}
use Rattle.spacing.proofs.kept_at.Goals as goal

pub returns-in_default : goal.returns-in_default
returns-in_default c = search (rules, kept_char)
