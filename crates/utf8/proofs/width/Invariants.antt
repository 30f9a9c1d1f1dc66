use Rattle.utf8.specs.Places.{units_of}
use Rattle.utf8.proofs.width.Given as goal

abbrev pub ghost-total : goal.ghost-total
ghost-total a = units_of
