use Rattle.std.proofs.Common.{length, arith, length-drop, ap}
use Rattle.std.proofs.lemmas.List.{take_rest}
use Rattle.simdutf8.proofs.Parts.{front_and_rest, valid_after}
use Rattle.utf8.proofs.Library.{prefix_all, prefix_valid}
use Rattle.utf8.proofs.well_formed_prefix.Goals as goal

pub returns-in-Ok : goal.returns-in-Ok
returns-in-Ok c =
    let at = c.well_formed_parts-at.result in
    let front = c.well_formed_parts-at.ensures in
    let rest = rw take_rest at c.in-Ok.ensures.cases in
    omega (arith, prefix_all _ (front_and_rest _ at front.0 front.1 rest.1), ap length rest.0, length-drop at c.args.s.now)

pub returns-in-Err : goal.returns-in-Err
returns-in-Err c =
    let at = c.well_formed_parts-at.result in
    let front = c.well_formed_parts-at.ensures in
    let fault = rw take_rest at c.in-Err.ensures.cases in
    omega (arith, c.valid_up_to.ensures, prefix_valid _ _ (valid_after _ at _ front.0 front.1 fault.1))
