use borrow.Author.Rules.{rules}
use Rattle.spacing.proofs.KeptLaws.{space_end, space_then}
use Rattle.spacing.proofs.kept_space.Goals as goal
use Rattle.spacing.proofs.kept_space.Goals.{else-j-line-via-then-j-line+else-line-j-eq32, else-j-line-via-else-j-line}

pub returns : goal.returns
returns c =
    elim c.else-j-line.branch [
      | else-j-line-via-then-j-line+else-line-j-eq32 w ↦ search (rules, space_then)
      | else-j-line-via-else-j-line w ↦ search (rules, space_end)
    ]
