-- `utf8::white_at` meets its contract: the answer is a law of proofs/TrimScan.antt.
-- Assumes nothing.
use Rattle.utf8.proofs.TrimScan.{ascii_given}
use borrow.Author.Rules.{rules}
use Rattle.utf8.proofs.white_at.Goals as goal

pub returns-else-b-ge128 : goal.returns-else-b-ge128
returns-else-b-ge128 c = search (rules, ascii_given)
