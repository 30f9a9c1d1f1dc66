use borrow.Author.Rules.{rules}
use Rattle.split_import.proofs.ImportLaws.{parts_none, parts_some}
use Rattle.split_import.proofs.write_import.Goals as goal

pub returns-then-few_names : goal.returns-then-few_names
returns-then-few_names c = search (rules, parts_none)

pub returns : goal.returns
returns c =
    parts_some c.requires c.few_names.ensures c.if-few_names.false c.write_head-n.ensures c.write_names-m.ensures c.write_line-w.ensures
