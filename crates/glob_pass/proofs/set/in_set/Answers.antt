use borrow.Author.Rules.{rules}
use Rattle.glob_pass.proofs.SetLaws.{set_none, set_not, set_plain}
use Rattle.glob_pass.proofs.set.in_set.Goals as goal
use Rattle.glob_pass.proofs.set.in_set.Goals.{in_default-via-then-set-lt1, in_default-via-else-set-lt1+in_default-1}

pub returns-in-33 : goal.returns-in-33
returns-in-33 c = search (rules, set_not)

pub returns-in_default : goal.returns-in_default
returns-in_default c =
    elim c.in_default.branch [
      | in_default-via-then-set-lt1 w ↦ search (rules, set_none)
      | in_default-via-else-set-lt1+in_default-1 w ↦ search (rules, set_plain)
    ]
