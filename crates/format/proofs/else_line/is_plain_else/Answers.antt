use borrow.Author.Rules.{rules}
use Rattle.format.proofs.ElseLaws.{else_no, else_long, else_well, else_rest}
use Rattle.format.proofs.else_line.is_plain_else.Goals as goal

pub slice_bounds-is_plain_rest-count : goal.slice_bounds-is_plain_rest-count
slice_bounds-is_plain_rest-count c = search (rules, else_long)

pub slice_bounds-is_plain_rest-start : goal.slice_bounds-is_plain_rest-start
slice_bounds-is_plain_rest-start c = search (rules, else_long)

pub is_plain_rest-requires : goal.is_plain_rest-requires
is_plain_rest-requires c = search (rules, else_well)

pub returns-then-starts_with : goal.returns-then-starts_with
returns-then-starts_with c = search (rules, else_rest)

pub returns-else-starts_with : goal.returns-else-starts_with
returns-else-starts_with c = search (rules, else_no)
