-- `write_group` meets its contract: a law for each way out (proofs/GroupCall.antt).
use native.Mathlib.Omega.{arith}
use mathlib.Core.Path.{refl}
use lib.ListN.{length}
use Rattle.group.proofs.GroupCall.{refused_first, refused_then, admitted, no_text_law, source_fits, codes_room, codes_ready, text_short, text_fits, refused_written}
use Rattle.group.proofs.write_group.Goals as goal

pub returns-in_err-test_length : goal.returns-in_err-test_length
returns-in_err-test_length c = refused_written _ _ _ _ _ _ c.from_residual.ensures (refused_first _ (length c.args.scratch.now) _ _ c.in_err-test_length.ensures)

pub returns-in_err-test_bytes : goal.returns-in_err-test_bytes
returns-in_err-test_bytes c =
    refused_written _ _ _ _ _ _ c.from_residual-in_err-test_bytes.ensures
    (refused_then _ (length c.args.scratch.now) _ _ c.in_ok-test_length.ensures c.in_err-test_bytes.ensures)

pub read-requires : goal.read-requires
read-requires c = source_fits (admitted _ (length c.args.scratch.now) c.in_ok-test_length.ensures c.in_ok-test_bytes.ensures)

pub returns-in_err-n : goal.returns-in_err-n
returns-in_err-n c =
    refused_written _ _ _ _ _ _ c.from_residual-in_err-n.ensures
    (no_text_law _ (length c.args.scratch.now) c.in_ok-test_length.ensures c.in_ok-test_bytes.ensures _ _ (c.in_err-n.ensures.is.no _ refl))

pub open_all-from-requires : goal.open_all-from-requires
open_all-from-requires c =
    (codes_room (admitted _ (length c.args.scratch.now) c.in_ok-test_length.ensures c.in_ok-test_bytes.ensures) c.in_ok-n.ensures).1

pub overflow_mul-n : goal.overflow_mul-n
overflow_mul-n c =
    omega (arith, (codes_room (admitted _ (length c.args.scratch.now) c.in_ok-test_length.ensures c.in_ok-test_bytes.ensures) c.in_ok-n.ensures).2)

pub close_all-length-requires : goal.close_all-length-requires
close_all-length-requires c =
    codes_ready (admitted _ (length c.args.scratch.now) c.in_ok-test_length.ensures c.in_ok-test_bytes.ensures) c.in_ok-n.ensures c.open_all-from.ensures

pub returns-then-output-length : goal.returns-then-output-length
returns-then-output-length c =
    rw c.into.ensures
    (text_short (admitted _ (length c.args.scratch.now) c.in_ok-test_length.ensures c.in_ok-test_bytes.ensures) c.in_ok-n.ensures _ c.args.output.now _ _ _ c.open_all-from.ensures
    c.close_all-length.ensures
    c.close_all-length.auto.out
    c.in_ok-test_length.ensures
    c.in_ok-test_bytes.ensures _
    c.if-output-length.true)

pub returns : goal.returns
returns c =
    text_fits (admitted _ (length c.args.scratch.now) c.in_ok-test_length.ensures c.in_ok-test_bytes.ensures) c.in_ok-n.ensures _ c.args.output.now _ _ _ c.open_all-from.ensures
    c.close_all-length.ensures
    c.close_all-length.auto.out
    c.in_ok-test_length.ensures
    c.in_ok-test_bytes.ensures _
    c.if-output-length.false
    c.finish.ensures
