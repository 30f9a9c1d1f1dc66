-- `find_code` meets its contract: the blocks that are passed have no byte c, and the first code character c after them is
-- the line's first; its laws for c are in proofs/ImportLaws.antt.
use Rattle.split_import.specs.Names.{byte_at, code_at}
use Rattle.split_import.proofs.find_code.Given as goal

abbrev pub ghost-past_blocks : goal.ghost-past_blocks
ghost-past_blocks a = byte_at a.test.now.1.now a.test.now.0.now

abbrev pub ghost-first_from : goal.ghost-first_from
ghost-first_from a = code_at a.test.now.0 a.test.now.1.now a.test.now.2.now
