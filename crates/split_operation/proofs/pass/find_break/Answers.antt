use native.Mathlib.Omega.{arith}
use mathlib.Core.Path.{refl, sym, ◌∙◌}
use Rattle.std.specs.Prelude.{None}
use Rattle.rules.specs.Strengths.{strengths_in}
use Rattle.split_operation.specs.Pass.{pass_at}
use Rattle.split_operation.proofs.PassLaws.{starts_line, passing_start, pass_fell, pass_plain, pass_taken, pass_left, pass_end, never_looser, taken_strength, keyword_unbroken}
use Rattle.split_operation.proofs.RunLaws.{run_within, passing_run}
use Rattle.split_operation.proofs.pass.find_break.Goals.{then-step+in-Some+then-is_looser, then-step+in-Some+else-is_looser, then-step+in_default, else-step}
use Rattle.split_operation.proofs.pass.find_break.Goals as goal

pub returns-then-has_keyword : goal.returns-then-has_keyword
returns-then-has_keyword c = keyword_unbroken _ _ _ (sym c.has_keyword.ensures ∙ c.if-has_keyword.true)

pub loop-i-init : goal.loop-i-init
loop-i-init c = (passing_start _ _ _ (pass_at c.default-s.result 0 None) c.requires (sym c.has_keyword.ensures ∙ c.if-has_keyword.false) (starts_line _ c.default-s.ensures) refl refl, tt)

pub returns-then-line-i : goal.returns-then-line-i
returns-then-line-i c =
    let q = c.loop-i.invariant in
    pass_end c.loop-i.b _ (passing_run (pass_at c.loop-i.s c.loop-i.depth c.loop-i.b) q.0 c.run_at-run.ensures) c.if-line-i.true q.1 c.end_pass.ensures

pub returns-in_err-depth : goal.returns-in_err-depth
returns-in_err-depth c =
    let q = passing_run (pass_at c.loop-i.s c.loop-i.depth c.loop-i.b) c.loop-i.invariant.0 c.run_at-run.ensures in
    rw c.from_residual.ensures (pass_fell _ _ _ _ _ q c.if-line-i.false c.in_err-depth.ensures)

pub loop-i-smaller : goal.loop-i-smaller
loop-i-smaller c = omega (arith, c.if-line-i.false, (run_within c.run_at-run.ensures c.loop-i.invariant.0.ops.within).0)

pub loop-i-preserved : goal.loop-i-preserved
loop-i-preserved c =
    let q = passing_run (pass_at c.loop-i.s c.loop-i.depth c.loop-i.b) c.loop-i.invariant.0 c.run_at-run.ensures in
    let h = c.if-line-i.false in
    let e = c.step.ensures in
    let table = strengths_in c.args.table.now in
    elim c.if-step.branch [
      | then-step+in-Some+then-is_looser w ↦
          rw (w.b-is, w.s-is)
          (pass_taken c.loop-i.b q h _ c.in_ok-depth.ensures _ _ e.stepped w.if-step.true (e.same w.if-step.true) _ (w.token_at-token.ensures table) _ _
          (taken_strength w.strength-strength.ensures (w.in-Some.ensures table)) _ w.is_looser.ensures w.if-is_looser.true _ w.break_at.ensures)
      | then-step+in-Some+else-is_looser w ↦
          rw (w.b-is, w.s-is) (
            pass_left c.loop-i.b q h _ c.in_ok-depth.ensures _ _ e.stepped w.if-step.true (e.same w.if-step.true) _ (w.token_at-token.ensures table) _ _
                (taken_strength w.strength-strength.ensures (w.in-Some.ensures table)) _ w.is_looser.ensures w.if-is_looser.false,
            c.loop-i.invariant.1,
          )
      | then-step+in_default w ↦
          rw (w.b-is, w.s-is) (
            pass_left c.loop-i.b q h _ c.in_ok-depth.ensures _ _ e.stepped w.if-step.true (e.same w.if-step.true) _ (w.token_at-token.ensures table) _ _
                (w.in_default.ensures table) _ (never_looser 0 _ refl) refl,
            c.loop-i.invariant.1,
          )
      | else-step w ↦ rw (w.b-is, w.s-is) (pass_plain c.loop-i.b q h _ c.in_ok-depth.ensures _ _ e.stepped w.if-step.false, c.loop-i.invariant.1)
    ]
