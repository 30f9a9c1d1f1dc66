use borrow.Author.Rules.{rules}
use borrow.Author.Tests.{eq-eqb}
use Rattle.split_operation.proofs.PassLaws.{never_looser, looser_by}
use Rattle.split_operation.proofs.pass.is_looser.Goals as goal

pub returns-then-a-ne0 : goal.returns-then-a-ne0
returns-then-a-ne0 c = looser_by _ _ c.if-a-ne0.true c.requires _ c.is_none_or.ensures (λ w p. search rules)

pub returns-else-a-ne0 : goal.returns-else-a-ne0
returns-else-a-ne0 c = rw (eq-eqb _ _ c.if-a-ne0.false) (never_looser _ _ c.if-a-ne0.false)
