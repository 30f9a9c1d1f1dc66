use native.Mathlib.Omega.{arith}
use mathlib.Core.Path.{sym, ◌∙◌}
use Rattle.scan.proofs.ScannedLaws.{scanned_then}
use Rattle.scan.proofs.CodeLaws.{plain_one, plain_pair}
use Rattle.scan.proofs.ones.Goals as goal

pub loop-i-preserved-then-b-eq92 : goal.loop-i-preserved-then-b-eq92
loop-i-preserved-then-b-eq92 c = scanned_then c.loop-i.invariant (plain_pair _ _ _ (omega arith) (omega arith) _ _ c.if-b-eq92.true c.pair-i.ensures)

pub returns-then-not-next_is : goal.returns-then-not-next_is
returns-then-not-next_is c = scanned_then c.loop-i.invariant (plain_one _ _ _ (omega arith) (omega arith) (sym c.starts_in_code.ensures ∙ c.if-starts_in_code.false))

pub loop-i-preserved : goal.loop-i-preserved
loop-i-preserved c = scanned_then c.loop-i.invariant (plain_one _ _ _ (omega arith) (omega arith) (sym c.starts_in_code.ensures ∙ c.if-starts_in_code.false))
