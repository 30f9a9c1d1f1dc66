use borrow.Author.Rules.{rules}
use Rattle.format.proofs.ElseLaws.{front_long, facts_by}
use Rattle.format.proofs.else_line.line_facts.Goals as goal

pub slice_bounds-ends_in_brace-end : goal.slice_bounds-ends_in_brace-end
slice_bounds-ends_in_brace-end c = front_long _ _ c.trim_end-trimmed.ensures.fits

pub returns : goal.returns
returns c = search (rules, facts_by)
