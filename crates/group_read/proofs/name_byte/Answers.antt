use borrow.Author.Rules.{rules}
use Rattle.group_read.proofs.ReadLaws.{name_goes, name_word, name_ends}
use Rattle.group_read.proofs.name_byte.Goals as goal

pub returns-then-is_ident : goal.returns-then-is_ident
returns-then-is_ident c = search (rules, name_goes)

pub returns-then-is_keyword : goal.returns-then-is_keyword
returns-then-is_keyword c = search (rules, name_word)

pub returns : goal.returns
returns c = search (rules, name_ends)
