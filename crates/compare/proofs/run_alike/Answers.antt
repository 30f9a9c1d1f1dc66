use Rattle.compare.proofs.CommonLaws.{run_first}
use Rattle.compare.proofs.run_alike.Goals as goal

pub returns-then-n-model : goal.returns-then-n-model
returns-then-n-model c = run_first _ _ _ _ _ c.if-n-model.true c.first_in.ensures
