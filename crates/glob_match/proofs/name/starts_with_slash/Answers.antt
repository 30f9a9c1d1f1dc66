use borrow.Author.Rules.{rules}
use Rattle.glob_match.proofs.NameLaws.{slash_none, slash_first, slash_not}
use Rattle.glob_match.proofs.name.starts_with_slash.Goals as goal

pub returns-in-47 : goal.returns-in-47
returns-in-47 c = search (rules, slash_first)

pub returns-in_default : goal.returns-in_default
returns-in_default c = search (rules, slash_none, slash_not)

pub returns-in_default-2 : goal.returns-in_default-2
returns-in_default-2 c = search (rules, slash_none, slash_not)
