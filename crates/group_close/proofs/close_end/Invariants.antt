use lib.Dec.{eqb}
use Rattle.group_close.proofs.close_end.Given as goal

abbrev pub ghost-close_until : goal.ghost-close_until
ghost-close_until a = λ t. eqb t 0
