use borrow.Author.Rules.{rules}
use Rattle.glob_match.proofs.NameLaws.{slash_no}
use Rattle.glob_match.proofs.name.slash_at.Goals as goal

pub returns-in_default : goal.returns-in_default
returns-in_default c = search (rules, slash_no)
