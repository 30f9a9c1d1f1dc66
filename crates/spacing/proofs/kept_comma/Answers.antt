use borrow.Author.Rules.{rules}
use Rattle.spacing.proofs.KeptLaws.{comma_end, comma_closer}
use Rattle.std.specs.Prelude.{false}
use Rattle.spacing.specs.Respaced.{NoBlank}
use Rattle.spacing.proofs.kept_comma.Goals as goal
use Rattle.spacing.proofs.kept_comma.Goals.{then-line-j-via-then-line-j, then-line-j-via-else-line-j+then-is_closer}

pub returns-then-line-j : goal.returns-then-line-j
returns-then-line-j c =
    let b : NoBlank c.args.line.now c.args.i false = c.if-blank_before.ensures in
    elim c.then-line-j.branch [
      | then-line-j-via-then-line-j w ↦ search (rules, comma_end)
      | then-line-j-via-else-line-j+then-is_closer w ↦ search (rules, comma_closer)
    ]
