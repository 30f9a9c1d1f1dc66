use mathlib.Core.Path.{◌≡◌, refl, ap, sym, ◌∙◌}
use Rattle.std.specs.Prelude.{Some, Err}
use Rattle.std.proofs.lemmas.Result.{err_from_is_err_and}
use native.Mathlib.Omega.{arith}
use Rattle.group_read.proofs.OperatorLaws.{strength_small, strength_err, strength_ok, operator_two_law, operator_none, operator_one_law}
use Rattle.group_read.proofs.operator_byte.Goals as goal

pub overflow_add-two : goal.overflow_add-two
overflow_add-two c = omega (arith, strength_small _ _ (c.in-Some.ensures.some _ refl).0)

pub returns-in-Some : goal.returns-in-Some
returns-in-Some c = operator_two_law _ _ c.requires _ _ c.in-Some.ensures c.put-p.ensures _ c.goes.ensures

pub returns-in_err-one : goal.returns-in_err-one
returns-in_err-one c =
    let e = strength_err _ _ _ (sym c.ok_or.ensures.value ∙ c.in_err-one.was) in
    let z = err_from_is_err_and c.from_residual.result c.from_residual.ensures.1 in
    operator_none _ _ c.requires c.in_default.ensures (rw e.0 at c.of_one.ensures) _ (z.1 ∙ ap Err (z.2 ∙ e.1))

pub overflow_add-one : goal.overflow_add-one
overflow_add-one c =
    let e : c.of_one.result ≡ Some c.in_ok-one.one = strength_ok _ _ _ (sym c.ok_or.ensures.value ∙ c.in_ok-one.was) in
    omega (arith, strength_small _ _ (c.of_one.ensures.some _ e).0)

pub returns : goal.returns
returns c =
    let e = strength_ok _ _ _ (sym c.ok_or.ensures.value ∙ c.in_ok-one.was) in
    operator_one_law _ _ c.requires c.in_default.ensures _ _ (rw e at c.of_one.ensures) c.put-p-2.ensures _
    c.due_byte.ensures
