use Rattle.blocks.proofs.first_by_blocks.Given as goal

abbrev pub ghost-past_blocks : goal.ghost-past_blocks
ghost-past_blocks g a = g.meets

abbrev pub ghost-first_from : goal.ghost-first_from
ghost-first_from g a = g.meets
