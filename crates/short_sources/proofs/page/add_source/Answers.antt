-- `add_source` meets its contract: the digits, LF and the text are appended.
use native.Mathlib.Omega.{arith}
use lib.ListN.{length-take}
use borrow.Author.Rules.{rules}
use Rattle.short_sources.proofs.SourceLaws.{added}
use Rattle.short_sources.proofs.page.add_source.Goals as goal

pub append-requires : goal.append-requires
append-requires c = simp length-take (omega arith)

pub returns : goal.returns
returns c = search (rules, added)
