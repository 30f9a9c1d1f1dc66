use borrow.Author.Rules.{rules}
use native.Mathlib.Omega.{arith}
use Rattle.split.proofs.TextLaws.{indent_short, line_room_law}
use Rattle.split.proofs.write_line.Goals as goal

pub invariant_of-pad : goal.invariant_of-pad
invariant_of-pad c = record { fits = omega (arith, indent_short _ _ c.requires.indents) }

pub append_indented-next-requires : goal.append_indented-next-requires
append_indented-next-requires c = search (rules, line_room_law)
