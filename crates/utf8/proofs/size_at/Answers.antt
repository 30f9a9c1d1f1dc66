-- `utf8::size_at` meets its contract: in a well-formed rest the first byte tells the size (`Scan.size-2` and so on).
-- Assumes nothing.
use Rattle.utf8.proofs.Scan.{ascii_step, size_2, size_3, size_4}
use borrow.Author.Rules.{rules}
use Rattle.utf8.proofs.size_at.Goals as goal

pub returns-in-0-to-127 : goal.returns-in-0-to-127
returns-in-0-to-127 c = search (rules, ascii_step)

pub returns-in-128-to-223 : goal.returns-in-128-to-223
returns-in-128-to-223 c = search (rules, size_2)

pub returns-in-224-to-239 : goal.returns-in-224-to-239
returns-in-224-to-239 c = search (rules, size_3)

pub returns-in_default : goal.returns-in_default
returns-in_default c = search (rules, size_4)
