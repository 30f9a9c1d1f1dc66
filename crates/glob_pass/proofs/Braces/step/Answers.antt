use native.Mathlib.Omega.{arith}
use Rattle.glob_pass.specs.declared.kinds.Brace.{Brace}
use Rattle.glob_pass.proofs.BraceLaws.{is_brace, other_brace, braced_closes, braced_none, braced_comma, braced_opens}
use Rattle.glob_pass.proofs.Braces.step.Goals as goal

pub returns-then-eq : goal.returns-then-eq
returns-then-eq c = rw (is_brace c.args.brace Brace.Closes c.if-eq.ensures) (braced_closes _ _ (omega arith))

pub returns-then-self-eq0 : goal.returns-then-self-eq0
returns-then-self-eq0 c = braced_none _ _ _ (other_brace _ _ c.if-eq.ensures) c.if-self-eq0.true

pub returns-then-eq-2 : goal.returns-then-eq-2
returns-then-eq-2 c = rw (is_brace c.args.brace Brace.Comma c.if-eq-2.ensures) (braced_comma _ _ c.if-self-eq0.false (omega arith))

pub returns : goal.returns
returns c = braced_opens _ _ c.if-self-eq0.false _ (other_brace _ _ c.if-eq.ensures) (other_brace _ _ c.if-eq-2.ensures)
