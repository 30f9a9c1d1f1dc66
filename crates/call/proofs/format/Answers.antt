-- `call::format` meets its contract. In each answer, a are the arguments.
use Rattle.call.proofs.CallLaws.{ran_refused, passed, ruler_small, ran_formatted}
use Rattle.call.proofs.format.Goals as goal

pub format_with-requires : goal.format_with-requires
format_with-requires c =
    let r = c.read-table.ensures in
    let n = c.from_numbers-named.ensures in
    let a = c.args in
    let e = c.in-Ok.is in record { passed = passed _ _ _ a.request.strengths.now a.output.now a.opened.now a.scratch.now _ _ _ r n c.test.ensures _ e; ruler_tab_bound = ruler_small _ _ _ a.request.strengths.now a.output.now a.opened.now a.scratch.now _ _ _ r n c.test.ensures _ e }

pub returns-in-Err : goal.returns-in-Err
returns-in-Err c =
    let a = c.args in
    ran_refused _ _ _ a.request.strengths.now a.output.now a.opened.now a.scratch.now _ _ _ c.read-table.ensures
    c.from_numbers-named.ensures
    c.test.ensures
    _ _ _ _ _
    c.in-Err.is
    c.refuse.ensures

pub returns-in-Ok : goal.returns-in-Ok
returns-in-Ok c =
    let a = c.args in
    ran_formatted _ _ _ a.request.strengths.now a.output.now a.opened.now a.scratch.now _ _ _ c.read-table.ensures
    c.from_numbers-named.ensures
    c.test.ensures _
    c.in-Ok.is _ _ _ _
    c.format_with.ensures
