use borrow.Author.Rules.{rules}
use Rattle.top_level_ops.proofs.StepLaws.{token_atom, token_sign}
use Rattle.top_level_ops.proofs.long_token.Goals as goal

pub returns-in-Some : goal.returns-in-Some
returns-in-Some c = λ table s e. let h = c.plain_token.ensures table s in let a = rw c.in-Some.is at c.atom_at.ensures in let p = a.0 in let q = a.1 in search (rules, token_atom)

pub returns-in-None : goal.returns-in-None
returns-in-None c = λ table s e. let h = c.sign_step.ensures table s e in let q = rw c.in-None.is at c.atom_at.ensures in search (rules, token_sign)
