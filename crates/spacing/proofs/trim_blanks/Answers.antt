use borrow.Author.Rules.{rules}
use Rattle.spacing.proofs.SpacingLaws.{trimming_more, trimming_stop, trimming_end}
use Rattle.spacing.proofs.trim_blanks.Goals as goal

pub loop-i-preserved : goal.loop-i-preserved
loop-i-preserved c = search (rules, trimming_more)

pub returns-then-not-is_blank : goal.returns-then-not-is_blank
returns-then-not-is_blank c = search (rules, trimming_stop)

pub returns : goal.returns
returns c = search (rules, trimming_end)
