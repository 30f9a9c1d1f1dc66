use borrow.Author.Rules.{rules}
use Rattle.format.proofs.ElseLaws.{brace_last, brace_short, brace_other}
use Rattle.format.proofs.else_line.ends_in_brace.Goals as goal

pub returns-in-125 : goal.returns-in-125
returns-in-125 c = search (rules, brace_last)

pub returns-in_default : goal.returns-in_default
returns-in_default c = search (rules, brace_short)

pub returns-in_default-2 : goal.returns-in_default-2
returns-in_default-2 c = search (rules, brace_other)
