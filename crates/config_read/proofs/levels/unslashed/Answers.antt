use borrow.Author.Rules.{rules}
use Rattle.config_read.proofs.LevelLaws.{slash_first, slash_short, slash_other}
use Rattle.config_read.proofs.levels.unslashed.Goals as goal

pub returns-in-47 : goal.returns-in-47
returns-in-47 c = search (rules, slash_first)

pub returns-in_default : goal.returns-in_default
returns-in_default c = search (rules, slash_short)

pub returns-in_default-2 : goal.returns-in_default-2
returns-in_default-2 c = search (rules, slash_other)
