use borrow.Author.Rules.{rules}
use Rattle.spacing.proofs.KeptLaws.{kept_other, kept_char}
use Rattle.spacing.proofs.kept_special.Goals as goal

pub returns-then-class-i-ne-CODE : goal.returns-then-class-i-ne-CODE
returns-then-class-i-ne-CODE c = search (rules, kept_other)

pub returns-in_default : goal.returns-in_default
returns-in_default c = search (rules, kept_char)
