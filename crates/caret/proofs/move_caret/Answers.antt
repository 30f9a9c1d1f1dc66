use borrow.Author.Rules.{rules}
use native.Mathlib.Omega.{arith}
use Rattle.caret.proofs.ScanLaws.{front_well, moved}
use lib.ListN.{length-take}
use Rattle.caret.proofs.move_caret.Goals as goal

pub slice_bounds-line_column-end : goal.slice_bounds-line_column-end
slice_bounds-line_column-end c = simp length-take (omega arith)

pub line_column-requires : goal.line_column-requires
line_column-requires c = search (rules, front_well)

pub returns : goal.returns
returns c = search (rules, moved)
