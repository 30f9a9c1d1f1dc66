use borrow.Author.Rules.{rules}
use mathlib.Core.Path.{sym, ◌∙◌}
use native.Mathlib.Omega.{arith}
use Rattle.format.proofs.WordLaws.{binary_short, binary_other, binary_one, binary_pair}
use Rattle.format.proofs.words.starts_with_binary_op.Goals as goal
use Rattle.format.proofs.words.starts_with_binary_op.Goals.{then-line-gt1, else-line-gt1}

pub returns-else-starts_operator : goal.returns-else-starts_operator
returns-else-starts_operator c =
    c.if-starts_operator.false ∙ elim c.if-line-gt1.branch [ then-line-gt1 w ↦ binary_other _ c.requires (omega arith) (sym w.starts_operator.ensures ∙ sym w.value-is ∙ c.if-starts_operator.false) | else-line-gt1 w ↦ binary_short _ c.requires (omega arith) ]

pub returns-then-starts_with_operator : goal.returns-then-starts_with_operator
returns-then-starts_with_operator c = search (rules, binary_one)

pub returns-else-starts_with_operator : goal.returns-else-starts_with_operator
returns-else-starts_with_operator c = search (rules, binary_pair)
