use borrow.Author.Rules.{rules}
use Rattle.replay_run.proofs.ListLaws.{reading_other, reading_full, reading_more, reading_end}
use Rattle.replay_run.proofs.list.number_at.Goals as goal
use Rattle.replay_run.proofs.list.number_at.Goals.{then-not-is_ascii_digit-via-then-not-is_ascii_digit}
use Rattle.replay_run.proofs.list.number_at.Goals.{then-not-is_ascii_digit-via-else-not-is_ascii_digit+then-n-ge100000000}

pub returns-then-not-is_ascii_digit : goal.returns-then-not-is_ascii_digit
returns-then-not-is_ascii_digit c =
    elim c.then-not-is_ascii_digit.branch [
      | then-not-is_ascii_digit-via-then-not-is_ascii_digit w ↦ search (rules, reading_other)
      | then-not-is_ascii_digit-via-else-not-is_ascii_digit+then-n-ge100000000 w ↦ search (rules, reading_full)
    ]

pub loop-i-preserved : goal.loop-i-preserved
loop-i-preserved c = search (rules, reading_more)

pub returns : goal.returns
returns c = search (rules, reading_end)
