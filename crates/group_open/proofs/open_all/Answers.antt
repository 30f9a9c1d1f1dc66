use borrow.Author.Rules.{rules}
use native.Mathlib.Omega.{arith}
use Rattle.group_open.proofs.BackLaws.{opened_none, backed_start, opened_all}
use Rattle.group_open.proofs.open_all.Goals as goal

pub returns-then-n-eq0 : goal.returns-then-n-eq0
returns-then-n-eq0 c = search (rules, opened_none)

pub open_back-back-requires : goal.open_back-back-requires
open_back-back-requires c = (omega arith, backed_start _ _ (search rules))

pub returns : goal.returns
returns c = search (rules, opened_all)
