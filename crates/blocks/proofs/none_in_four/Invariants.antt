use Rattle.blocks.proofs.none_in_four.Given as goal

abbrev pub ghost-any_among : goal.ghost-any_among
ghost-any_among g a = g.meets
