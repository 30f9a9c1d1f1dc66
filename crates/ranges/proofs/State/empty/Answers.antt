use Rattle.ranges.proofs.StepLaws.{none_kept}
use Rattle.ranges.proofs.State.empty.Goals as goal

pub returns : goal.returns
returns c = record { slots = λ i. none_kept 1026 i _; far = λ i. none_kept 1026 i _ }
