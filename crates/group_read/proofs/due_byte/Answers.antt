use borrow.Author.Rules.{rules}
use Rattle.group_read.proofs.ReadLaws.{due_blank, due_sign, due_deep, due_open, due_number, due_name, due_refused}
use Rattle.group_read.proofs.due_byte.Goals as goal

pub returns-then-is_blank : goal.returns-then-is_blank
returns-then-is_blank c = search (rules, due_blank)

pub returns-then-is_sign : goal.returns-then-is_sign
returns-then-is_sign c = search (rules, due_sign)

pub returns-then-depth-ge-MAX_DEPTH : goal.returns-then-depth-ge-MAX_DEPTH
returns-then-depth-ge-MAX_DEPTH c = search (rules, due_deep)

pub returns-then-c-eq40 : goal.returns-then-c-eq40
returns-then-c-eq40 c = search (rules, due_open)

pub returns-then-is_ascii_digit : goal.returns-then-is_ascii_digit
returns-then-is_ascii_digit c = search (rules, due_number)

pub returns-then-is_ident : goal.returns-then-is_ident
returns-then-is_ident c = due_name _ _ _ _ _ c.requires _ c.is_blank.ensures c.if-is_blank.false _ c.is_sign.ensures c.if-is_sign.false c.if-c-eq40.false _ c.is_ascii_digit.ensures.value c.if-is_ascii_digit.false _ c.is_ident.ensures c.if-is_ident.true _ c.goes-then-is_ident.ensures

pub returns : goal.returns
returns c = search (rules, due_refused)
