use mathlib.Core.Path.{refl}
use Rattle.group_read.proofs.OperatorLaws.{built_read, positive_none, positive_then}
use Rattle.group_read.proofs.strength.built_in.Goals as goal

pub returns-in_err-operator : goal.returns-in_err-operator
returns-in_err-operator c = rw (c.from_residual.ensures, c.in_err-operator.was) (positive_none _ refl)

pub returns : goal.returns
returns c = rw c.in_ok-operator.was (positive_then _ _ (built_read _ _ c.strength-s.ensures) _ c.then_some.ensures)
