use Rattle.text_kinds.proofs.ClassLaws.{ascii_run}
use Rattle.text_kinds.proofs.ascii_to.Goals as goal

pub returns-else-end-ascii : goal.returns-else-end-ascii
returns-else-end-ascii c = (ascii_run _ _ _ c.past_blocks.ensures, c.past_blocks.ensures.from)
