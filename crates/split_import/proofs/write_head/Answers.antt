use borrow.Author.Rules.{rules}
use native.Mathlib.Omega.{arith}
use Rattle.split.proofs.TextLaws.{indent_short}
use Rattle.split_import.proofs.ImportLaws.{head_room, brace_room, head_written}
use Rattle.split_import.proofs.write_head.Goals as goal

pub invariant_of-pad : goal.invariant_of-pad
invariant_of-pad c = record { fits = omega (arith, indent_short _ _ c.requires.indents) }

pub append_indented-m-requires : goal.append_indented-m-requires
append_indented-m-requires c = search (rules, head_room)

pub append-requires : goal.append-requires
append-requires c = search (rules, brace_room)

pub returns : goal.returns
returns c = search (rules, head_written)
