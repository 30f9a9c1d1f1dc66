-- `break_first` meets its contract: the rounds that are left fall with each call of itself.
use Rattle.split_operation.proofs.+break_first.Given as goal

abbrev pub decreases-break_first : goal.decreases-break_first
decreases-break_first l = l.b.rounds
