use Rattle.std.proofs.Common.{rules, sym, ◌∙◌}
use borrow.Author.Tests.{eqb-true}
use Rattle.buffer.proofs.WriteLaws.{wrote_none, wrote_times}
use Rattle.buffer.proofs.put_indent.Goals as goal

pub returns-then-is_empty : goal.returns-then-is_empty
returns-then-is_empty c = wrote_none _ _ _ (eqb-true _ _ (sym c.is_empty.ensures ∙ c.if-is_empty.true))

pub returns-then-all_are : goal.returns-then-all_are
returns-then-all_are c = search (rules, wrote_times)
