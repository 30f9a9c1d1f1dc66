use borrow.Author.Rules.{rules}
use lib.ListN.{length}
use mathlib.Core.Path.{◌≡◌, refl}
use Rattle.wsfmt_run.specs.Program.{refusal, written}
use native.Mathlib.Omega.{arith}
use Rattle.wsfmt_run.proofs.ProgramLaws.{printed_refusal, too_long_law}
use Rattle.wsfmt_run.proofs.print.Goals as goal

pub returns-then-source-gt-MAX_INPUT : goal.returns-then-source-gt-MAX_INPUT
returns-then-source-gt-MAX_INPUT c =
    printed_refusal _ _ _ _ _ _ (length c.args.output.now) c.zero.ensures c.put_refusal.ensures (too_long_law _ c.if-source-gt-MAX_INPUT.true) (search rules) (omega arith) (omega arith)

pub returns-in-Ok : goal.returns-in-Ok
returns-in-Ok c = c.in-Ok.ensures.accepted _ refl

pub returns-in-Err : goal.returns-in-Err
returns-in-Err c =
    let t = c.in-Err.ensures.refused _ refl in
    let e : written c.args.source.now ≡ refusal c.number.result c.place.result = rw (c.number.ensures, c.place.ensures) t.told in
    printed_refusal _ _ _ _ _ _ (length c.args.output.now) t.zeros c.put_refusal-in-Err.ensures e t.room (search rules) (search rules)
