use Rattle.utf8.specs.Places.{lead_of}
use Rattle.utf8.proofs.char_count.Given as goal

abbrev pub ghost-total : goal.ghost-total
ghost-total a = lead_of
