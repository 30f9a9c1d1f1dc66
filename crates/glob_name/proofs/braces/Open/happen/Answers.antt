use native.Mathlib.Omega.{arith}
use Rattle.glob_pass.specs.declared.kinds.Brace.{Brace}
use Rattle.glob_pass.proofs.BraceLaws.{is_brace, other_brace}
use Rattle.glob_name.proofs.MarkLaws.{happened_nothing, happened_open, happened_none, happened_comma, happened_close}
use Rattle.glob_name.proofs.braces.Open.happen.Goals as goal

pub returns-in_default : goal.returns-in_default
returns-in_default c = rw c.in_default.is (happened_nothing _)

pub returns-then-eq : goal.returns-then-eq
returns-then-eq c = rw (c.in-Some.is, is_brace c.in-Some.brace Brace.Opens c.if-eq.ensures) (happened_open _ (omega arith))

pub returns-then-self-eq0 : goal.returns-then-self-eq0
returns-then-self-eq0 c = rw c.in-Some.is (happened_none _ _ (other_brace _ _ c.if-eq.ensures) c.if-self-eq0.true)

pub returns-then-eq-2 : goal.returns-then-eq-2
returns-then-eq-2 c = rw (c.in-Some.is, is_brace c.in-Some.brace Brace.Comma c.if-eq-2.ensures) (happened_comma _ c.if-self-eq0.false (omega arith))

pub returns : goal.returns
returns c = rw c.in-Some.is (happened_close _ c.if-self-eq0.false _ (other_brace _ _ c.if-eq.ensures) (other_brace _ _ c.if-eq-2.ensures))
