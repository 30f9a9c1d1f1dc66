use borrow.Author.Rules.{rules}
use Rattle.buffer.proofs.WriteLaws.{appended_from, appended_append}
use Rattle.buffer.proofs.append_indented.Goals as goal

pub returns : goal.returns
returns c = search (rules, appended_append, appended_from)
