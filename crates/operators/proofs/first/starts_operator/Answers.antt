use mathlib.Core.Bool.{or_assoc}
use borrow.Author.Rules.{rules}
use Rattle.operators.proofs.EveryByte.{first_byte_law}
use Rattle.operators.proofs.first.starts_operator.Goals as goal

pub returns : goal.returns
returns c = first_byte_law _ _ (search rules) (simp or_assoc)
