use borrow.Author.Rules.{rules}
use Rattle.compare.proofs.WriterLaws.{pad_some, pad_run, pad_long}
use Rattle.compare.proofs.put_pad.Goals as goal

pub bounds-pad-0 : goal.bounds-pad-0
bounds-pad-0 c = search (rules, pad_some)

pub returns-then-all_are : goal.returns-then-all_are
returns-then-all_are c = search (rules, pad_run)

pub returns : goal.returns
returns c = search (rules, pad_long)
