-- `utf8::white_before` meets its contract: the answer is a law of proofs/TrimScan.antt.
-- Assumes nothing.
use Rattle.utf8.proofs.TrimScan.{before_ascii}
use borrow.Author.Rules.{rules}
use Rattle.utf8.proofs.white_before.Goals as goal

pub returns-else-b-ge128 : goal.returns-else-b-ge128
returns-else-b-ge128 c = search (rules, before_ascii)
