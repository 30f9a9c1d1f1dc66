use borrow.Author.Rules.{rules}
use Rattle.glob_name.proofs.ReadLaws.{token_escape, token_set, token_brace, token_star, token_slash}
use Rattle.glob_name.proofs.ReadLaws.{token_one, token_comma, token_closes, token_plain}
use Rattle.glob_name.proofs.read.read_at.Goals as goal

pub returns-in-92 : goal.returns-in-92
returns-in-92 c = search (rules, token_escape)

pub returns-in-91 : goal.returns-in-91
returns-in-91 c = search (rules, token_set)

pub returns-in-123 : goal.returns-in-123
returns-in-123 c = search (rules, token_brace)

pub returns-in-42 : goal.returns-in-42
returns-in-42 c = search (rules, token_star)

pub returns-in-47 : goal.returns-in-47
returns-in-47 c = search (rules, token_slash)

pub returns-in-63 : goal.returns-in-63
returns-in-63 c = search (rules, token_one)

pub returns-in-44 : goal.returns-in-44
returns-in-44 c = search (rules, token_comma)

pub returns-in-125 : goal.returns-in-125
returns-in-125 c = search (rules, token_closes)

pub returns-in_default : goal.returns-in_default
returns-in_default c = search (rules, token_plain)
