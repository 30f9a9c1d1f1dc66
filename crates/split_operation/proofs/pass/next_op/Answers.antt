use native.Mathlib.Omega.{arith}
use mathlib.Core.Path.{◌≡◌, sym}
use Rattle.rules.specs.Strengths.{strengths_in}
use Rattle.split_operation.proofs.PassLaws.{read_token, taken_strength, seek_read, seek_found, seek_plain, seek_end}
use Rattle.split_operation.proofs.RunLaws.{run_within, seek_run}
use Rattle.split_operation.proofs.pass.next_op.Goals.{then-step+in-Some+else-strength, then-step+in_default, else-step}
use Rattle.split_operation.proofs.pass.next_op.Goals as goal

pub returns-then-line-i : goal.returns-then-line-i
returns-then-line-i c = seek_end (seek_run c.loop-i.invariant c.run_at-run.ensures) c.if-line-i.true

pub loop-i-smaller : goal.loop-i-smaller
loop-i-smaller c = omega (arith, c.if-line-i.false, (run_within c.run_at-run.ensures c.loop-i.invariant.within).0)

pub loop-i-preserved : goal.loop-i-preserved
loop-i-preserved c =
    let q = seek_run c.loop-i.invariant c.run_at-run.ensures in
    let h = c.if-line-i.false in
    let e = c.step.ensures in
    let table = strengths_in c.args.table.now in
    elim c.if-step.branch [
      | then-step+in-Some+else-strength w ↦
          rw w.s-is
          (seek_read q _ h
          (read_token _ _ _ _ _ h q.breaks _ _ e.stepped w.if-step.true (e.same w.if-step.true) _ (w.token_at-token.ensures table) _ _
          (taken_strength w.strength.ensures (w.in-Some.ensures table))) w.if-strength.false)
      | then-step+in_default w ↦
          rw w.s-is
          (seek_read q _ h
          (read_token _ _ _ _ _ h q.breaks _ _ e.stepped w.if-step.true (e.same w.if-step.true) _ (w.token_at-token.ensures table) _ _
          (w.in_default.ensures table)) (λ (z : 0 ≡ c.args.strength). q.some (sym z)))
      | else-step w ↦ rw w.s-is (seek_plain q _ _ h e.stepped w.if-step.false)
    ]

pub returns-then-strength : goal.returns-then-strength
returns-then-strength c =
    let q = seek_run c.loop-i.invariant c.run_at-run.ensures in
    let h = c.if-line-i.false in
    let e = c.step.ensures in
    let table = strengths_in c.args.table.now in
    seek_found q _ h
    (read_token _ _ _ _ _ h q.breaks _ _ e.stepped c.if-step.true (e.same c.if-step.true) _ (c.token_at-token.ensures table) _ _
    (taken_strength c.strength.ensures (c.in-Some.ensures table))) c.if-strength.true
