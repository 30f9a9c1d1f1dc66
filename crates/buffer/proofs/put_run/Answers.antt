use borrow.Author.Rules.{rules}
use Rattle.buffer.proofs.WriteLaws.{wrote_run}
use Rattle.buffer.proofs.put_run.Goals as goal

pub returns : goal.returns
returns c = search (rules, wrote_run)
