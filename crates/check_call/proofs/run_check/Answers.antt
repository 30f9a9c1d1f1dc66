use Rattle.rules.proofs.RefusalLaws.{handed_on}
use Rattle.check_call.proofs.CheckLaws.{run_refused, check_passed, check_ruler, run_found}
use Rattle.check_call.proofs.run_check.Goals as goal

pub check_with-requires : goal.check_with-requires
check_with-requires c =
    let a = c.args in
    let r = c.read-table.ensures in
    let n = c.options_of-named.ensures in
    let e = c.in_ok-options.was in record { passed = check_passed _ _ _ a.request.strengths.now a.scratch.now _ _ _ r n c.test.ensures _ e; ruler_tab_bound = check_ruler _ _ _ a.request.strengths.now a.scratch.now _ _ _ r n c.test.ensures _ e }

pub returns-in_err-options : goal.returns-in_err-options
returns-in_err-options c =
    let a = c.args in
    rw (handed_on c.from_residual.result _ c.from_residual.ensures)
    (run_refused _ _ _ a.request.strengths.now a.scratch.now _ _ _ c.read-table.ensures c.options_of-named.ensures c.test.ensures _ c.in_err-options.was)

pub returns : goal.returns
returns c =
    let a = c.args in
    run_found _ _ _ a.request.strengths.now a.scratch.now _ _ _ c.read-table.ensures c.options_of-named.ensures c.test.ensures _ c.in_ok-options.was _ c.check_with.ensures
